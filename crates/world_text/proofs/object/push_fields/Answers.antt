use Rattle.std.proofs.Common.{◌∙◌, sym, arith, string_bytes, append-nil}
use Rattle.world_text.proofs.Joining.{named_next, named_end, separator_next}
use Rattle.world_text.specs.WorldText.{slot_text}
use Rattle.world_text.proofs.object.push_fields.Goals as goal

pub loop-i-preserved : goal.loop-i-preserved
loop-i-preserved c =
    let k = named_next (slot_text c.args.numbers.now) c.args.fields.now c.args.slots.now c.loop-i.i c.index-fields-i.result c.index-slots-i.result _ _ _ _ (omega arith) (omega arith) c.loop-i.invariant in
    rw (c.in_ok-push_slot.ensures, c.in_ok-push_label.ensures, c.in_ok-push_separator.ensures, c.as_str.ensures, c.index-fields-i.is, c.index-slots-i.is, separator_next) k

pub returns : goal.returns
returns c =
    let k = named_end (slot_text c.args.numbers.now) c.args.fields.now c.args.slots.now c.loop-i.i (omega arith) in
    sym (append-nil (string_bytes c.loop-i.out)) ∙ (rw k at c.loop-i.invariant)
