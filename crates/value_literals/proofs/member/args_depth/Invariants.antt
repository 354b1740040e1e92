use Rattle.std.proofs.Common.{◌≡◌, ◌+◌, drop, max}
use Rattle.value_literals.specs.Code.{args_depth}
use Rattle.value_literals.proofs.member.args_depth.Given as goal

abbrev pub invariant-loop-arg : goal.invariant-loop-arg
invariant-loop-arg l = (max l.deepest (args_depth l.depth (drop l.arg-index l.args)) ≡ args_depth l.first l.args) × (l.depth ≡ l.first + l.arg-index)
