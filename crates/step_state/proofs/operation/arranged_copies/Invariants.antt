use Rattle.std.proofs.Common.{◌≡◌, take}
use Rattle.step_state.specs.Operations.{arranged}
use Rattle.step_state.proofs.operation.arranged_copies.Given as goal

abbrev pub invariant-loop-field : goal.invariant-loop-field
invariant-loop-field l = l.values ≡ arranged (take l.field-index l.fields) l.written
