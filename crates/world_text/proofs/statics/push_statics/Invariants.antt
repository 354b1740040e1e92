use Rattle.std.proofs.Common.{◌≡◌, ◌++◌, drop, string_bytes}
use Rattle.world_text.specs.WorldText.{statics_text}
use Rattle.world_text.proofs.statics.push_statics.Given as goal

abbrev pub invariant-loop-i : goal.invariant-loop-i
invariant-loop-i l =
    string_bytes l.out ++ statics_text l.numbers l.recorder (drop l.i l.fields) (drop l.i l.slots) ≡ string_bytes l.initial.out ++ statics_text l.numbers l.recorder l.fields l.slots
