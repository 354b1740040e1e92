-- One piece of a text after another.
use Rattle.std.proofs.Common.{◌≡◌, ℕ, List, ◌++◌, ap, ◌∙◌, append_assoc}

pub after : (x y z a b : List ℕ) → y ≡ x ++ a → z ≡ y ++ b → z ≡ x ++ (a ++ b)
after x y z a b p q = q ∙ (ap (λ t. t ++ b) p ∙ append_assoc x a b)
