use Rattle.std.proofs.Common.{◌≡◌, ◌-◌, ◌++◌}
use Rattle.value_literals.specs.Emitted.{run_code}
use Rattle.value_literals.proofs.ops.run_ops.Given as goal

abbrev pub invariant-loop-j : goal.invariant-loop-j
invariant-loop-j l = l.code ++ run_code l.class l.j (l.count - l.j) ≡ run_code l.class 0 l.count
