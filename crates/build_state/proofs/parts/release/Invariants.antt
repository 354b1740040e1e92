use Rattle.std.proofs.Common.{take}
use Rattle.build_state.specs.Parts.{AreReleased}
use Rattle.build_state.proofs.parts.release.Given as goal

abbrev pub invariant-loop-step : goal.invariant-loop-step
invariant-loop-step l = AreReleased (take l.step-index l.steps) l.initial.slots.items l.slots.items
