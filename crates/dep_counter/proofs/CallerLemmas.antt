-- Lemmas for callers: what stands in a list of numbers.
use Rattle.std.proofs.Common.{◌≡◌, ℕ, zero, suc, ◌<◌, List, [], ◌∷◌, Bool, true, false, ◌==◌, length, get_or, Contains, refl, subst, arith, ◌⊎◌, inl, inr}
use Rattle.std.proofs.lemmas.Bool.{eqb-true, eqb-false}

pub in_head : {X : Type 0} (x : X) (xs : List X) → Contains (x ∷ xs) x
in_head x xs = (0, omega arith, refl)

pub in_tail : {X : Type 0} (x : X) (xs : List X) (y : X) → Contains xs y → Contains (x ∷ xs) y
in_tail x xs y c = let inside : c.0 < length xs = c.1 in (suc c.0, omega arith, c.2)

pub in_none : {X : Type 0} (x : X) → Contains [] x → ⊥
in_none x c = let inside : c.0 < 0 = c.1 in omega arith

at_cases : {X : Type 0} (x : X) (xs : List X) (y : X) (k : ℕ) → k < length (x ∷ xs) → get_or (x ∷ xs) k y ≡ y → (x ≡ y) ⊎ Contains xs y
at_cases x xs y zero lt q = inl q
at_cases x xs y (suc k) lt q = inr (k, omega arith, q)

pub in_cases : {X : Type 0} (x : X) (xs : List X) (y : X) → Contains (x ∷ xs) y → (x ≡ y) ⊎ Contains xs y
in_cases x xs y c = at_cases x xs y c.0 c.1 c.2

-- a number stands in the list, or it doesn't
decide_at : (x y : ℕ) (xs : List ℕ) (b : Bool) → (x == y) ≡ b → (Contains xs y) ⊎ (Contains xs y → ⊥) → (Contains (x ∷ xs) y) ⊎ (Contains (x ∷ xs) y → ⊥)
decide_at x y xs true q w = inl (subst (Contains (x ∷ xs)) (eqb-true x y q) (in_head x xs))
decide_at x y xs false q (inl c) = inl (let inside : c.0 < length xs = c.1 in (suc c.0, omega arith, c.2))
decide_at x y xs false q (inr n) = inr (λ c. elim (in_cases x xs y c) [ inl e ↦ eqb-false x y q e | inr t ↦ n t ])

pub decide : (xs : List ℕ) (y : ℕ) → (Contains xs y) ⊎ (Contains xs y → ⊥)
decide [] y = inr (λ c. in_none y c)
decide (x ∷ xs) y = decide_at x y xs (x == y) refl (decide xs y)
