-- The text of a plan: a line for each needed step, and a last line that counts them. This project's own.
use Rattle.std.specs.Prelude.{◌≡◌, ◌↔◌, ℕ, ◌<◌, List, [], ◌∷◌, ◌++◌, length, map, Contains, codes}
use Rattle.std.specs.Fmt.{decimal}
use Rattle.std.specs.List.{flat_map}
use Rattle.std.specs.List.Sorted.{IsStrictlyIncreasing}
use Rattle.item_types.specs.declared.step.StepDecl.{StepDecl}
use Rattle.chain_builder.specs.Needed.{IsNeeded}
use Rattle.chain_builder.specs.Edge.{HasEdge}
use Rattle.chain_builder.specs.FaultText.{step_name}

-- a step, and those that it waits for
pub record PlanRow : Type 0 where
  pub step : ℕ
  pub after : List ℕ

abbrev pub steps_of : List PlanRow → List ℕ
steps_of rows = map (λ (row : PlanRow). row.step) rows

-- the step's edge producers, in ascending order
pub record IsRow (steps : List StepDecl) (finals : List ℕ) (row : PlanRow) : Type 0 where
  pub edges : (p : ℕ) → Contains row.after p ↔ HasEdge steps finals p row.step
  pub ascending : IsStrictlyIncreasing row.after

-- the needed steps below a limit, in ascending order, each with its edge producers
pub record ArePlanRows (steps : List StepDecl) (finals : List ℕ) (limit : ℕ) (rows : List PlanRow) : Type 0 where
  pub needed : (s : ℕ) → Contains (steps_of rows) s ↔ ((s < limit) × IsNeeded steps finals s)
  pub ascending : IsStrictlyIncreasing (steps_of rows)
  pub each : (row : PlanRow) → Contains rows row → IsRow steps finals row

abbrev pub numbers_text : List ℕ → List ℕ
numbers_text numbers = flat_map (λ n. codes " " ++ decimal n) numbers

-- nothing where it waits for none
abbrev pub after_text : List ℕ → List ℕ
after_text [] = []
after_text (p ∷ ps) = codes " after" ++ numbers_text (p ∷ ps)

abbrev pub row_text : List StepDecl → PlanRow → List ℕ
row_text steps row = codes "step " ++ decimal row.step ++ codes " " ++ step_name steps row.step ++ after_text row.after ++ codes "\n"

abbrev pub rows_text : List StepDecl → List PlanRow → List ℕ
rows_text steps rows = flat_map (row_text steps) rows

-- how many steps of all are planned
abbrev pub count_text : List ℕ → ℕ → ℕ → List ℕ
count_text app planned all = codes "planned " ++ app ++ codes ": steps " ++ decimal planned ++ codes " of " ++ decimal all ++ codes "\n"

abbrev pub IsPlanText : List ℕ → List StepDecl → List ℕ → List ℕ → Type 0
IsPlanText app steps finals text =
    (rows : List PlanRow) × ArePlanRows steps finals (length steps) rows × (text ≡ rows_text steps rows ++ count_text app (length rows) (length steps))

-- these lines were appended, one for each of the rows of the plan
abbrev pub AppendsRows : List StepDecl → List ℕ → List ℕ → List ℕ → ℕ → Type 0
AppendsRows steps finals before now planned =
    (rows : List PlanRow) × ArePlanRows steps finals (length steps) rows × (now ≡ before ++ rows_text steps rows) × (planned ≡ length rows)

-- this line was appended, of a row of that step
abbrev pub AppendsRow : List StepDecl → List ℕ → List ℕ → List ℕ → ℕ → Type 0
AppendsRow steps finals before now step =
    (row : PlanRow) × (row.step ≡ step) × IsRow steps finals row × (now ≡ before ++ row_text steps row)
