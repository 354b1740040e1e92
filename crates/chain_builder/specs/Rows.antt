-- Tables of rows of numbers: row a holds the numbers that a is related to. This project's own.
use Rattle.std.specs.Prelude.{◌≡◌, ℕ, ◌<◌, ◌≤◌, List, [], length, Contains, ◌⊎◌, ◌↔◌, slice_index_or}
use Rattle.std.specs.List.Sorted.{IsStrictlyIncreasing}

-- row a, and no number past the last row
abbrev pub row : List (List ℕ) → ℕ → List ℕ
row rows a = slice_index_or rows a []

-- each number in the rows is below the limit
abbrev pub AreBelow : List (List ℕ) → ℕ → Type 0
AreBelow rows limit = (a b : ℕ) → Contains (row rows a) b → b < limit

-- b has a in its row where a has b
abbrev pub IsTransposed : List (List ℕ) → List (List ℕ) → Type 0
IsTransposed rows table = (a b : ℕ) → Contains (row table b) a ↔ Contains (row rows a) b

-- one of the keys is linked with c
abbrev pub IsLinkedWith : List (List ℕ) → List ℕ → ℕ → Type 0
IsLinkedWith links keys c = (b : ℕ) × Contains keys b × Contains (row links b) c

-- c has a in its row where a has a number that is linked with c
abbrev pub IsJoined : List (List ℕ) → List (List ℕ) → List (List ℕ) → Type 0
IsJoined rows links table = (a c : ℕ) → Contains (row table c) a ↔ IsLinkedWith links (row rows a) c

abbrev pub AreAscending : List (List ℕ) → Type 0
AreAscending rows = (a : ℕ) → IsStrictlyIncreasing (row rows a)

-- in order, and nothing above x
pub record IsRowUpTo (x : ℕ) (xs : List ℕ) : Type 0 where
  pub rising : IsStrictlyIncreasing xs
  pub upto : (y : ℕ) → Contains xs y → y ≤ x

-- new has what old has, and x
pub record AddsOne (old : List ℕ) (x : ℕ) (new : List ℕ) : Type 0 where
  pub old_kept : (y : ℕ) → Contains old y → Contains new y
  pub added : Contains new x
  pub nothing_else : (y : ℕ) → Contains new y → Contains old y ⊎ (y ≡ x)

-- each row that is named gets x
pub record AddsToRows (old : List (List ℕ)) (Named : ℕ → Type 0) (x : ℕ) (new : List (List ℕ)) : Type 0 where
  pub wide : length new ≡ length old
  pub old_kept : (b y : ℕ) → Contains (row old b) y → Contains (row new b) y
  pub added : (b : ℕ) → Named b → Contains (row new b) x
  pub nothing_else : (b y : ℕ) → Contains (row new b) y → Contains (row old b) y ⊎ ((y ≡ x) × Named b)
