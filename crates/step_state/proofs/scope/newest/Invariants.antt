use Rattle.std.proofs.Common.{◌≡◌, ◌-◌, take}
use Rattle.operators.specs.Found.{found}
use Rattle.step_state.specs.Bound.{bound}
use Rattle.step_state.proofs.scope.newest.Given as goal

abbrev pub invariant-loop-i : goal.invariant-loop-i
invariant-loop-i g l = found (take (l.count - l.i) (bound l.entries)) l.name ≡ found (bound l.entries) l.name
