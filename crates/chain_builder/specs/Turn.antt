-- The words of the search for a cycle: the way back through the rows, and the part of it that goes round. This project's own.
use Rattle.std.specs.Prelude.{◌≡◌, ℕ, ◌+◌, ◌-◌, ◌<◌, ◌≤◌, List, ◌++◌, length, Contains, slice_index, reverse, drop}
use Rattle.chain_builder.specs.Rows.{row}

-- p is the least number of the row that is not removed
pub record IsFirstLeft (row removed : List ℕ) (p : ℕ) : Type 0 where
  pub there : Contains row p
  pub stays : Contains removed p → ⊥
  pub least : (q : ℕ) → Contains row q → (Contains removed q → ⊥) → p ≤ q

-- the walk goes from start by first numbers of rows, none twice, and then comes to `step`, where it has been
pub record IsReturn (rows : List (List ℕ)) (removed : List ℕ) (start : ℕ) (walk : List ℕ) (step : ℕ) : Type 0 where
  pub some : 0 < length walk
  pub starts : slice_index walk 0 ≡ start
  pub goes : (k : ℕ) → k + 1 < length walk → IsFirstLeft (row rows (slice_index walk k)) removed (slice_index walk (k + 1))
  pub apart : (j k : ℕ) → j < k → k < length walk → slice_index walk j ≡ slice_index walk k → ⊥
  pub ends : IsFirstLeft (row rows (slice_index walk (length walk - 1))) removed step
  pub again : Contains walk step

-- the part from `back` on against its order, from its least number on
pub record IsTurned (walk : List ℕ) (back : ℕ) (cycle : List ℕ) : Type 0 where
  pub front : List ℕ
  pub rest : List ℕ
  pub turned : reverse (drop back walk) ≡ front ++ rest
  pub is : cycle ≡ rest ++ front
  pub least : (s : ℕ) → Contains cycle s → slice_index cycle 0 ≤ s
