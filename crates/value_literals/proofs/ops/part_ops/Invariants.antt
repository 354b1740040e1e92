use Rattle.std.proofs.Common.{◌≡◌, drop, ◌++◌, flat_map}
use Rattle.value_literals.specs.Code.{unit_code}
use Rattle.value_literals.proofs.ops.part_ops.Given as goal

abbrev pub invariant-loop-unit : goal.invariant-loop-unit
invariant-loop-unit l = l.code ++ flat_map (unit_code l.names l.class) (drop l.unit-index l.units) ≡ flat_map (unit_code l.names l.class) l.units
