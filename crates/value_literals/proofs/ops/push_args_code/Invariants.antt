use Rattle.std.proofs.Common.{◌≡◌, drop, ◌++◌, flat_map}
use Rattle.value_literals.specs.Code.{value_code}
use Rattle.value_literals.proofs.ops.push_args_code.Given as goal

abbrev pub invariant-loop-arg : goal.invariant-loop-arg
invariant-loop-arg l = l.code ++ flat_map (value_code l.names l.class) (drop l.arg-index l.args) ≡ l.initial.code ++ flat_map (value_code l.names l.class) l.args
