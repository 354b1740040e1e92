use Rattle.std.proofs.Common.{◌≡◌, take}
use Rattle.method_exec.proofs.applying.named_of.Given as goal

abbrev pub invariant-loop-field : goal.invariant-loop-field
invariant-loop-field l = l.named ≡ take l.field-index l.fields
