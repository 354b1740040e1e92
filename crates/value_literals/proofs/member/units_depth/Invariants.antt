use Rattle.std.proofs.Common.{◌≡◌, drop, max}
use Rattle.value_literals.specs.Code.{units_depth}
use Rattle.value_literals.proofs.member.units_depth.Given as goal

abbrev pub invariant-loop-unit : goal.invariant-loop-unit
invariant-loop-unit l = max l.deepest (units_depth (drop l.unit-index l.units)) ≡ units_depth l.units
