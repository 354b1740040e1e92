-- A stable sort by a number, and where each element stands in it. This project's own.
use Rattle.std.specs.Prelude.{◌≡◌, ℕ, ◌+◌, ◌<◌, ℤ, int_lt, Bool, cond, List, [], ◌∷◌, length, take, slice_index_or, count_by}
use Rattle.std.specs.Ordering.{int_eq}

-- v, among elements that stand in order, before the first that is not less than it
abbrev pub insert_lt : {X : Type 0} → (X → X → Bool) → X → List X → List X
insert_lt lt v [] = v ∷ []
insert_lt lt v (x ∷ xs) = cond (lt x v) (x ∷ insert_lt lt v xs) (v ∷ x ∷ xs)

-- the elements in order, and those that tie in the order that they have
abbrev pub sorted_lt : {X : Type 0} → (X → X → Bool) → List X → List X
sorted_lt lt [] = []
sorted_lt lt (x ∷ xs) = insert_lt lt x (sorted_lt lt xs)

-- the same by a number
abbrev pub sorted_by : {X : Type 0} → (X → ℤ) → List X → List X
sorted_by key = sorted_lt (λ x y. int_lt (key x) (key y))

-- for v at place i: how many places have a lesser key, or an equal key and come before i
abbrev pub rank : {X : Type 0} → (X → ℤ) → List X → ℕ → X → ℕ
rank key xs i v = count_by (λ x. int_lt (key x) (key v)) xs + count_by (λ x. int_eq (key x) (key v)) (take i xs)

-- ys is as long as xs, and each element of xs stands in it at its rank
abbrev pub StandsByRank : {X : Type 0} → (X → ℤ) → List X → List X → Type 0
StandsByRank {X} key xs ys =
    (length ys ≡ length xs) × ((i : ℕ) (d : X) → i < length xs → slice_index_or ys (rank key xs i (slice_index_or xs i d)) d ≡ slice_index_or xs i d)
