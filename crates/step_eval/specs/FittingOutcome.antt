-- Outcomes that fit the declared names. This project's own, after Quarkus's recorders.
use Rattle.std.specs.Prelude.{ℕ, ◌<◌, List, length}
use Rattle.std.specs.List.{All}
use Rattle.item_types.specs.Fitting.{ValueFits}
use Rattle.item_types.specs.declared.decl.Names.{Names}
use Rattle.item_types.specs.declared.value.Value.{Value}
use Rattle.recorder_proxy.specs.Fitting.{CallFits}
use Rattle.step_state.specs.declared.outcome.Outcome.{Outcome}
use Rattle.step_state.specs.declared.outcome.Outcome.TheVariants.{Done, Fails}
use Rattle.value_order.specs.Found.{kind_of, HasKey}

-- the item is declared, the value fits, and it has a key where the item is ordered
pub record PutFits (names : Names) (item : ℕ) (v : Value) : Type 0 where
  pub item_in : item < length names.items
  pub value_fits : ValueFits names v
  pub keyed : HasKey names (kind_of names item) v

-- each put and each recorded call fits
abbrev pub OutcomeFits : Names → Outcome → Type 0
OutcomeFits names (Done puts calls) = All (λ p. PutFits names p.0 p.1) puts × All (CallFits names) calls
OutcomeFits names (Fails r) = Unit {0}
