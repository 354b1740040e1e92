-- Pieces appended one after another.
use Rattle.std.proofs.Common.{◌≡◌, ◌∙◌, ap, ℕ, List, ◌++◌}
use Rattle.std.proofs.lemmas.List.{append_assoc}

two : (o p q a b : List ℕ) → p ≡ o ++ a → q ≡ p ++ b → q ≡ o ++ (a ++ b)
two o p q a b first second = second ∙ (ap (λ l. l ++ b) first ∙ append_assoc o a b)

three : (o p q r a b c : List ℕ) → p ≡ o ++ a → q ≡ p ++ b → r ≡ q ++ c → r ≡ o ++ (a ++ b ++ c)
three o p q r a b c first second third = two o q r (a ++ b) c (two o p q a b first second) third

pub four : (o p q r s a b c d : List ℕ) → p ≡ o ++ a → q ≡ p ++ b → r ≡ q ++ c → s ≡ r ++ d → s ≡ o ++ (a ++ b ++ c ++ d)
four o p q r s a b c d first second third fourth = two o r s (a ++ b ++ c) d (three o p q r a b c first second third) fourth

pub five : (o p q r s t a b c d e : List ℕ) → p ≡ o ++ a → q ≡ p ++ b → r ≡ q ++ c → s ≡ r ++ d → t ≡ s ++ e → t ≡ o ++ (a ++ b ++ c ++ d ++ e)
five o p q r s t a b c d e first second third fourth fifth = two o s t (a ++ b ++ c ++ d) e (four o p q r s a b c d first second third fourth) fifth
