use Rattle.build_state.specs.Parts.{AreOpen}
use Rattle.build_state.proofs.parts.open_slots.Given as goal

abbrev pub invariant-loop-step : goal.invariant-loop-step
invariant-loop-step l = AreOpen l.job l.step l.slots
