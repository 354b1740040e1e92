-- The edges of a plan, each a producer and a step that waits for it. This project's own.
use Rattle.std.specs.Prelude.{ℕ, zero, suc, ◌<◌, ◌^◌, List, [], ◌∷◌, ◌++◌, map, length, cond, ◌==◌}
use Rattle.std.specs.List.{All}
use Rattle.std.specs.List.Sorted.{IsStrictlyIncreasing}

-- the producer of an edge, where it leads into s
abbrev pub producer_of : ℕ → ℕ × ℕ → List ℕ
producer_of s e = cond (e.1 == s) (e.0 ∷ []) []

-- the producers of the edges into s, in order
abbrev pub producers : ℕ → List (ℕ × ℕ) → List ℕ
producers s [] = []
producers s (e ∷ es) = producer_of s e ++ producers s es

-- the steps that wait for p, in order
abbrev pub dependents : ℕ → List (ℕ × ℕ) → List ℕ
dependents p [] = []
dependents p (e ∷ es) = cond (e.0 == p) (e.1 ∷ []) [] ++ dependents p es

-- the edges from p to the steps of a row
abbrev pub row_edges : ℕ → List ℕ → List (ℕ × ℕ)
row_edges p row = map (λ s. (p, s)) row

-- rows of dependents written out as edges; the first row is of the step p
abbrev pub edges_from : ℕ → List (List ℕ) → List (ℕ × ℕ)
edges_from p [] = []
edges_from p (row ∷ rows) = row_edges p row ++ edges_from (suc p) rows

abbrev pub edges_of : List (List ℕ) → List (ℕ × ℕ)
edges_of rows = edges_from zero rows

-- a row for each step: its dependents, in ascending order
pub record AreRows (rows : List (List ℕ)) : Type 0 where
  pub few : length rows < 2 ^ 32
  pub ascending : All IsStrictlyIncreasing rows
  pub inside : All (All (λ s. s < length rows)) rows
