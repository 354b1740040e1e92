use Rattle.std.proofs.Common.{◌≡◌, map}
use Rattle.step_state.specs.Bound.{bound}
use Rattle.step_state.proofs.operation.written_values.Given as goal

abbrev pub invariant-loop-value : goal.invariant-loop-value
invariant-loop-value l = l.values ≡ map (λ p. p.1) (bound l.yielded)
