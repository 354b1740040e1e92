-- What contracts see of a board and of a pass. This project's own.
use Rattle.std.specs.Prelude.{ℕ, List}
use Rattle.atomic_table.specs.Seated.{TableId}

-- a board: which table it has, and its plan
pub record BoardView : Type 0 where
  pub id : TableId
  pub steps : ℕ
  pub edges : List (ℕ × ℕ)

-- a pass: the board that it is of, with the plan that it carries, its parts and its lists
pub record PassView : Type 0 where
  pub of : BoardView
  pub parts : ℕ
  pub ended : List ℕ
  pub told : List ℕ
  pub late : List ℕ

-- the same pass with other lists
abbrev pub with_lists : PassView → List ℕ → List ℕ → List ℕ → PassView
with_lists pass ended told late = record { of = pass.of; parts = pass.parts; ended = ended; told = told; late = late }

-- the same pass with other parts
abbrev pub with_parts : PassView → ℕ → PassView
with_parts pass parts = record { of = pass.of; parts = parts; ended = pass.ended; told = pass.told; late = pass.late }
