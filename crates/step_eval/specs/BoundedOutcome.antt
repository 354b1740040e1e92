-- Outcomes all of whose values are within the bounds. This project's own.
use Rattle.std.specs.List.{All}
use Rattle.item_types.specs.Bounds.{IsBounded}
use Rattle.step_state.specs.declared.outcome.Outcome.{Outcome}
use Rattle.step_state.specs.declared.outcome.Outcome.TheVariants.{Done, Fails}

-- each produced value and each argument of a recorded call is within the bounds
abbrev pub HasBoundedValues : Outcome → Type 0
HasBoundedValues (Done puts calls) = All (λ p. IsBounded p.1) puts × All (λ c. All IsBounded c.args) calls
HasBoundedValues (Fails r) = Unit {0}
