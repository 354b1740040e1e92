use Rattle.std.proofs.Common.{◌≡◌, take}
use Rattle.operators.specs.Found.{arranged}
use Rattle.startup_rules.specs.declared.slot.Slot.TheVariants.{Null}
use Rattle.method_exec.proofs.field.arranged.Given as goal

abbrev pub invariant-loop-field : goal.invariant-loop-field
invariant-loop-field l = l.values ≡ arranged Null (take l.field-index l.fields) l.written
