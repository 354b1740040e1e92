-- A table of numbers. This project's own.
use Rattle.std.specs.Prelude.{◌≡◌, ℕ, List, length, slice_index_or}
use Rattle.startup_rules.specs.Views.{number_in}

-- at each object its number in the view, or, where it isn't in the view or beyond the table, how many objects the view has
abbrev pub Tells : List ℕ → List ℕ → Type 0
Tells table order = (o : ℕ) → slice_index_or table o (length order) ≡ number_in order o
