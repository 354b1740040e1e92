use Rattle.std.proofs.Common.{◌≡◌, ◌-◌, take}
use Rattle.operators.specs.Found.{found}
use Rattle.method_exec.specs.Shown.{shown}
use Rattle.method_exec.proofs.named.newest.Given as goal

abbrev pub invariant-loop-i : goal.invariant-loop-i
invariant-loop-i l = found (take (l.count - l.i) (shown l.entries)) l.name ≡ found (shown l.entries) l.name
