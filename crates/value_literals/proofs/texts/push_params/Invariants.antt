use Rattle.std.proofs.Common.{◌≡◌, ◌++◌, drop, string_bytes}
use Rattle.value_literals.specs.Code.{objects}
use Rattle.value_literals.proofs.texts.push_params.Given as goal

abbrev pub invariant-loop-param : goal.invariant-loop-param
invariant-loop-param l = string_bytes l.out ++ objects (drop l.param-index l.params) ≡ string_bytes l.initial.out ++ objects l.params
