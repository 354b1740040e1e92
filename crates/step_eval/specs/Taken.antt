-- What a step took. This project's own.
use Rattle.std.specs.Prelude.{ℕ, ◌==◌, List, [], ◌∷◌, position, slice_get, Option, Some, None, unwrap_or}
use Rattle.item_types.specs.declared.step.StepDecl.{StepDecl}
use Rattle.item_types.specs.declared.value.Value.{Value}
use Rattle.item_types.specs.declared.value.Value.TheVariants as made
use Rattle.step_eval.specs.Setting.{Setting}

-- the place of the item among the step's consumptions
abbrev pub consumption : StepDecl → ℕ → Option ℕ
consumption decl item = position (λ c. c.item == item) decl.consumes

-- the values at that place
abbrev pub list_at : List (List Value) → ℕ → List Value
list_at lists place = unwrap_or (slice_get lists place) []

abbrev pub taken_at : List (List Value) → Option ℕ → List Value
taken_at lists None = []
taken_at lists (Some place) = list_at lists place

-- what was taken of the item
unfoldable pub taken : Setting → ℕ → List Value
taken cx item = taken_at cx.lists (consumption cx.decl item)

-- the first of these, or null
abbrev pub first_of : List Value → Value
first_of [] = made.Null
first_of (v ∷ vs) = v
