use Rattle.build_state.proofs.Draining.{IsEnding}
use Rattle.build_state.proofs.state.BuildState.end_started.Given as goal

abbrev pub invariant-loop-step : goal.invariant-loop-step
invariant-loop-step l = IsEnding l.fn.self l.self l.step
