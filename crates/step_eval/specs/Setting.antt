-- What an evaluation is given. This project's own.
use Rattle.std.specs.Prelude.{ℕ, List}
use Rattle.item_types.specs.declared.decl.Names.{Names}
use Rattle.item_types.specs.declared.step.StepDecl.{StepDecl}
use Rattle.item_types.specs.declared.value.Value.{Value}

-- the declared names, the step's declaration and number, and one list of values for each of its consumptions
pub record Setting : Type 0 where
  pub names : Names
  pub decl : StepDecl
  pub step : ℕ
  pub lists : List (List Value)
