use Rattle.std.proofs.Common.{◌≡◌, ◌∙◌, ap, sym, subst}
use Rattle.build_state.specs.declared.mark.Mark.{Mark}
use Rattle.build_state.specs.declared.slot.Slot.{Slot}
use Rattle.build_state.specs.Marks.{no_slot}
use Rattle.build_state.specs.Parts.{IsFirst}
use Rattle.build_state.proofs.Opening.{open_more}
use Rattle.build_state.proofs.parts.open_slots.Goals as goal

pub loop-step-preserved : goal.loop-step-preserved
loop-step-preserved c =
    let mark : c.open_slot.result.mark ≡ c.first_mark.result = ap (λ (x : Slot). x.mark) c.open_slot.ensures in
    let empty : c.open_slot.result ≡ record no_slot { mark = c.open_slot.result.mark } = c.open_slot.ensures ∙ ap (λ (m : Mark). record no_slot { mark = m }) (sym mark) in
    open_more c.args.job.now c.loop-step.step c.loop-step.slots c.push.new.self c.open_slot.result c.loop-step.invariant empty (subst (IsFirst c.args.job.now c.loop-step.step) (sym mark) c.first_mark.ensures) c.in_ok-push.ensures.ok
