-- One item of the search for needed steps: its producers are found. This project's own.
use Rattle.std.specs.Prelude.{ℕ, List, Contains, ◌⊎◌}
use Rattle.chain_builder.specs.Rows.{row}
use Rattle.chain_builder.specs.Marks.{Numbers, Grows, AddsAll}

-- the producers are found, and what those that were not found before consume is wanted
pub record Visits (found wanted : Numbers) (producers : List ℕ) (consumed : List (List ℕ)) (found_after wanted_after : Numbers) : Type 0 where
  pub finds : AddsAll found producers found_after
  pub grows : Grows wanted wanted_after
  pub wanted_by : (t : ℕ) → Contains wanted_after.items t → Contains wanted.items t ⊎ ((s : ℕ) × Contains producers s × Contains (row consumed s) t)
  pub wants : (s t : ℕ) → Contains found_after.items s → Contains (row consumed s) t → Contains found.items s ⊎ Contains wanted_after.items t
