-- What holds of each element holds of each of them in order.
use Rattle.std.proofs.Common.{◌≡◌, Bool, true, false, List, [], ◌∷◌, refl}
use Rattle.std.specs.List.{All}
use Rattle.std.proofs.lemmas.List.Elements.{All-cons, All-head, All-tail}
use Rattle.value_order.specs.Sorted.{insert_lt, sorted_lt}

module _ {X : Type 0} (P : X → Type 0) (lt : X → X → Bool) where
  insert_at : (v x : X) (xs : List X) (b : Bool) → lt x v ≡ b → P v → P x → All P xs → All P (insert_lt lt v xs) → All P (insert_lt lt v (x ∷ xs))
  insert_at v x xs true e p q h i = rw e (All-cons P x (insert_lt lt v xs) q i)
  insert_at v x xs false e p q h i = rw e (All-cons P v (x ∷ xs) p (All-cons P x xs q h))

  All-insert : (v : X) (xs : List X) → P v → All P xs → All P (insert_lt lt v xs)
  All-insert v [] p h = All-cons P v [] p h
  All-insert v (x ∷ xs) p h =
      insert_at v x xs (lt x v) refl p (All-head P x xs h) (All-tail P x xs h) (All-insert v xs p (All-tail P x xs h))

  pub All-sorted : (xs : List X) → All P xs → All P (sorted_lt lt xs)
  All-sorted [] h = h
  All-sorted (x ∷ xs) h = All-insert x (sorted_lt lt xs) (All-head P x xs h) (All-sorted xs (All-tail P x xs h))
