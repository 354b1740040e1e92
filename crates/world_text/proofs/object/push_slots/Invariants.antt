use denote.Shadow.{shadow}
use denote.Text.{Utf8}
use Rattle.std.proofs.Common.{◌≡◌, ◌++◌, map, drop, codes, string_bytes}
use Rattle.item_types.specs.Printed.{joined}
use Rattle.world_text.specs.WorldText.{slot_text}
use Rattle.world_text.proofs.object.push_slots.Given as goal

abbrev pub invariant-loop-slot : goal.invariant-loop-slot
invariant-loop-slot l =
    (string_bytes l.out ++ joined l.mark (codes ", ") (map (slot_text l.numbers) (drop l.slot-index l.slots))
    ≡ string_bytes l.initial.out ++ joined l.before (codes ", ") (map (slot_text l.numbers) l.slots))
    × shadow (Utf8 l.mark)
