-- Lists of numbers in strict order, and their elements.
use Rattle.std.proofs.Common.{◌≡◌, refl, ℕ, suc, ◌+◌, ◌<◌, inl, inr, List, [], ◌∷◌, ◌++◌, length, get_or, Contains, arith}
use Rattle.std.specs.List.Sorted.{IsStrictlyIncreasing}
use Rattle.std.proofs.lemmas.Bool.{cases_lt}
use Rattle.std.proofs.lemmas.List.{get_or_append_left, get_or_push, get_or_default, length_push}

pub rising_push : (xs : List ℕ) (x : ℕ) → IsStrictlyIncreasing xs → ((y : ℕ) → Contains xs y → y < x) → IsStrictlyIncreasing (xs ++ x ∷ [])
rising_push xs x up below k h =
    let long : length (xs ++ x ∷ []) ≡ length xs + 1 = length_push xs x in
    let inside : k < length xs = omega arith in
    let at : get_or (xs ++ x ∷ []) k 0 ≡ get_or xs k 0 = get_or_append_left xs (x ∷ []) 0 k inside in
    elim (cases_lt (k + 1) (length xs)) [
      | inl more ↦
          let next : get_or (xs ++ x ∷ []) (k + 1) 0 ≡ get_or xs (k + 1) 0 = get_or_append_left xs (x ∷ []) 0 (k + 1) more in
          let lt : get_or xs k 0 < get_or xs (k + 1) 0 = up k more in
          omega arith
      | inr last ↦
          let next : get_or (xs ++ x ∷ []) (k + 1) 0 ≡ x = get_or_push xs x 0 (k + 1) (omega arith) in
          let lt : get_or xs k 0 < x = below (get_or xs k 0) (k, inside, get_or_default xs k (get_or xs k 0) 0 inside) in
          omega arith
    ]

pub in_head : {X : Type 0} (x : X) (xs : List X) → Contains (x ∷ xs) x
in_head x xs = (0, omega arith, refl)

pub in_tail : {X : Type 0} (x : X) (xs : List X) (y : X) → Contains xs y → Contains (x ∷ xs) y
in_tail x xs y c = let inside : c.0 < length xs = c.1 in (suc c.0, omega arith, c.2)

pub in_none : {X : Type 0} (x : X) → Contains [] x → ⊥
in_none x c = let inside : c.0 < 0 = c.1 in omega arith
