use Rattle.std.proofs.Common.{◌≡◌, ◌++◌, [], map, drop, codes, string_bytes}
use Rattle.item_types.specs.Printed.{joined, named, separator}
use Rattle.world_text.specs.WorldText.{slot_text}
use Rattle.world_text.proofs.object.push_fields.Given as goal

abbrev pub invariant-loop-i : goal.invariant-loop-i
invariant-loop-i l =
    string_bytes l.out ++ joined (separator l.i) (codes ", ") (named (drop l.i l.fields) (map (slot_text l.numbers) (drop l.i l.slots)))
    ≡ string_bytes l.initial.out ++ joined [] (codes ", ") (named l.fields (map (slot_text l.numbers) l.slots))
