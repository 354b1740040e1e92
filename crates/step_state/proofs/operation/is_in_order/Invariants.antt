use Rattle.std.proofs.Common.{◌≡◌, length, take, map}
use Rattle.step_state.specs.Bound.{bound}
use Rattle.step_state.specs.Operations.{arranged}
use Rattle.step_state.proofs.operation.is_in_order.Given as goal

abbrev pub invariant-loop-i : goal.invariant-loop-i
invariant-loop-i l = record {
  lengths : length l.fields ≡ length l.written;
  so_far : arranged (take l.i l.fields) (bound l.written) ≡ map (λ p. p.1) (take l.i (bound l.written));
}
