use Rattle.std.proofs.Common.{◌∙◌, sym, arith, string_bytes}
use Rattle.world_text.proofs.Joining.{comma_is_text, joined_next}
use Rattle.world_text.specs.WorldText.{slot_text}
use Rattle.world_text.proofs.object.push_slots.Goals as goal

pub loop-slot-preserved : goal.loop-slot-preserved
loop-slot-preserved c =
    let k = joined_next (slot_text c.args.numbers.now) c.args.slots.now c.loop-slot.slot-index c.slot-item.result _ _ _ _ (omega arith) c.loop-slot.invariant.0 in
    (rw (c.in_ok-push_slot.ensures, c.in_ok-push_str.ensures.bytes, c.slot-item.is) k, comma_is_text)
