use Rattle.build_state.proofs.Going.{open_in}
use Rattle.build_state.proofs.Draining.{IsRunning}
use Rattle.build_state.proofs.state.BuildState.run_released.Given as goal

abbrev pub invariant-loop-step : goal.invariant-loop-step
invariant-loop-step l = IsRunning l.fn.self l.self

abbrev pub decreases-loop-step : goal.decreases-loop-step
decreases-loop-step l = open_in l.self
