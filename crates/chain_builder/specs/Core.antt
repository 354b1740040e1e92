-- The greatest set of numbers of which each has a number of the set in its row.
use Rattle.std.specs.Prelude.{◌≡◌, ℕ, ◌<◌, ◌≤◌, Bool, true, List, ◌∷◌, ◌++◌, [], length, Contains, ◌⊎◌, slice_index, slice_set, take}
use Rattle.chain_builder.specs.Rows.{row}
use Rattle.chain_builder.specs.Marks.{Numbers}

-- each number of the set has one of the set in its row
abbrev pub IsClosedIn : List (List ℕ) → (ℕ → Bool) → Type 0
IsClosedIn rows set = (s : ℕ) → set s ≡ true → (p : ℕ) × (set p ≡ true) × Contains (row rows s) p

-- d is looked at again: its place moves over what is removed, and at the end of its row it is removed too
pub record Releases (removed : Numbers) (next : List ℕ) (row : List ℕ) (d : ℕ) (removed_after : Numbers) (next_after : List ℕ) : Type 0 where
  pub limit : removed_after.limit ≡ removed.limit
  pub items : (removed_after.items ≡ removed.items) ⊎ ((removed_after.items ≡ removed.items ++ d ∷ []) × (length row ≤ slice_index next_after d))
  pub place : ℕ
  pub moved : next_after ≡ slice_set next d place
  pub passed : (j : ℕ) → j < place → j < length row → Contains removed.items (slice_index row j)
  pub ends : ((place < length row) × (Contains removed_after.items (slice_index row place) → ⊥)) ⊎ ((length row ≤ place) × Contains removed_after.items d)

-- no set that is closed has a removed number
abbrev pub AreOutside : List (List ℕ) → Numbers → Type 0
AreOutside rows removed = (set : ℕ → Bool) → IsClosedIn rows set → (s : ℕ) → set s ≡ true → Contains removed.items s → ⊥

-- each number that is left has one that is left in its row
abbrev pub AreLeftWithOne : List (List ℕ) → Numbers → Type 0
AreLeftWithOne rows removed = (s : ℕ) → s < length rows → (Contains removed.items s → ⊥) → (p : ℕ) × (p < length rows) × Contains (row rows s) p × (Contains removed.items p → ⊥)

-- each removed number comes after all numbers in its row
abbrev pub AreInOrder : List (List ℕ) → List ℕ → Type 0
AreInOrder rows removed = (k : ℕ) → k < length removed → (p : ℕ) → Contains (row rows (slice_index removed k)) p → Contains (take k removed) p
