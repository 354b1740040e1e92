-- Texts that are appended one after another.
use Rattle.std.proofs.Common.{◌≡◌, ◌∙◌, ap, ℕ, List, ◌++◌, append_assoc}

pub five : (o a b c d e p q r s t : List ℕ) → p ≡ o ++ a → q ≡ p ++ b → r ≡ q ++ c → s ≡ r ++ d → t ≡ s ++ e → t ≡ o ++ (a ++ b ++ c ++ d ++ e)
five o a b c d e p q r s t first second third fourth fifth =
    fifth
    ∙ ap (λ x. x ++ e) (fourth ∙ ap (λ x. x ++ d) (third ∙ ap (λ x. x ++ c) (second ∙ ap (λ x. x ++ b) first ∙ append_assoc o a b) ∙ append_assoc o (a ++ b) c) ∙ append_assoc o (a ++ b ++ c) d)
    ∙ append_assoc o (a ++ b ++ c ++ d) e
