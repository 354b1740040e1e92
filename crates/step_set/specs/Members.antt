-- Sets of steps below a bound: for each number whether it is in the set. This project's own.
use Rattle.std.specs.Prelude.{◌≡◌, ◌≢◌, ℕ, Bool, true, false, ◌↔◌, ◌⊎◌, List, Contains, slice_index_or}

-- the set has the step
abbrev pub Has : List Bool → ℕ → Type 0
Has set s = slice_index_or set s false ≡ true

-- new has what old has, and x
abbrev pub IsWith : List Bool → ℕ → List Bool → Type 0
IsWith old x new = (s : ℕ) → Has new s ↔ (Has old s ⊎ (s ≡ x))

-- new has what old has, but x
abbrev pub IsWithout : List Bool → ℕ → List Bool → Type 0
IsWithout old x new = (s : ℕ) → Has new s ↔ (Has old s × (s ≢ x))

-- new has what old has, and xs
abbrev pub IsWithAll : List Bool → List ℕ → List Bool → Type 0
IsWithAll old xs new = (s : ℕ) → Has new s ↔ (Has old s ⊎ Contains xs s)
