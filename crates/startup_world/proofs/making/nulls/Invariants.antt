use Rattle.std.proofs.Common.{◌≡◌, replicate}
use Rattle.startup_rules.specs.declared.slot.Slot.TheVariants.{Null}
use Rattle.startup_world.proofs.making.nulls.Given as goal

abbrev pub invariant-loop-i : goal.invariant-loop-i
invariant-loop-i l = l.slots ≡ replicate l._i Null
