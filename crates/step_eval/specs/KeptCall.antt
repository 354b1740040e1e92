-- A recorded call and the proxy that stands for what it will return. This project's own.
use Rattle.std.specs.Prelude.{◌≡◌, ℕ, Bool, List, [], ◌∷◌, ◌++◌, length}
use Rattle.item_types.specs.declared.step.Phase.{Phase}
use Rattle.item_types.specs.declared.value.Value.{Value}
use Rattle.item_types.specs.declared.value.Value.TheVariants.{Returned}
use Rattle.syntax_tree.specs.declared.tree.Invoke.{Invoke}
use Rattle.step_state.specs.declared.state.State.{State}

-- the call comes after those before it, and the proxy has as its number how many these are
pub record IsNextCall (step : ℕ) (phase : Phase) (i : Invoke) (keeps : Bool) (before : State) (v : Value) (after : State) : Type 0 where
  pub args : List Value
  pub proxy : v ≡ Returned (record { step = step; call = length before.calls; phase = phase })
  pub recorded : after.calls ≡ before.calls ++ record { recorder = i.recorder; method = i.method; args = args; keeps = keeps } ∷ []
