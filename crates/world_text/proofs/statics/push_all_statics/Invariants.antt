use Rattle.std.proofs.Common.{◌≡◌, ◌++◌, drop, string_bytes}
use Rattle.world_text.specs.WorldText.{recorders_text}
use Rattle.world_text.proofs.statics.push_all_statics.Given as goal

abbrev pub invariant-loop-i : goal.invariant-loop-i
invariant-loop-i l = string_bytes l.out ++ recorders_text l.numbers (drop l.i l.decls) (drop l.i l.rows) ≡ string_bytes l.initial.out ++ recorders_text l.numbers l.decls l.rows
