use Rattle.std.proofs.Common.{◌≡◌, ◌+◌, ◌-◌, ◌^◌, ◌<◌, min, false, List, length, sym, ap, subst, ◌∙◌}
use Rattle.item_types.specs.declared.step.Consume.{Consume}
use Rattle.item_types.specs.declared.step.StepDecl.{StepDecl}
use Rattle.item_types.specs.declared.value.Value.{Value}
use Rattle.step_state.specs.Size.{size_of_all}
use Rattle.step_eval.specs.Taken.{list_at}
use Rattle.step_state.specs.declared.measure.Size.{Size}
use Rattle.step_eval.proofs.Taking.{taking_next}
use Rattle.step_eval.proofs.body.fits_taken.Goals as goal

pub loop-place-preserved : goal.loop-place-preserved
loop-place-preserved c =
    let at : c.loop-place.place < length c.args.cx.now.decl.consumes =
    subst (λ (l : List Consume). c.loop-place.place < length l) (c.as_slice-consume-items.ensures ∙ ap (λ (d : StepDecl). d.consumes) c.decl.ensures) c.loop-place-test.true in
    let size : c.size_of_all-size.result ≡ size_of_all (list_at c.args.cx.now.lists c.loop-place.place) =
    subst (λ (vs : List Value). c.size_of_all-size.result ≡ size_of_all vs) c.list_at.ensures c.size_of_all-size.ensures in
    record {
      counted = c.loop-place.invariant.counted ∙
          taking_next c.args.cx.now.decl.consumes c.args.cx.now.lists c.loop-place.place c.loop-place.cells c.loop-place.text c.saturating_add-cells.result c.saturating_add-text.result
          (record { item = 0; optional = false }) at
          (ap (λ (z : Size). min (c.loop-place.cells + z.cells) (2 ^ 64 - 1)) (sym size) ∙ sym c.saturating_add-cells.ensures)
          (ap (λ (z : Size). min (c.loop-place.text + z.text) (2 ^ 64 - 1)) (sym size) ∙ sym c.saturating_add-text.ensures)
          c.loop-place.invariant.cells_in c.loop-place.invariant.text_in c.if-cells-gt-MAX_TAKEN_CELLS.false c.if-text-gt-MAX_TAKEN_TEXT.false;
      cells_in = c.if-cells-gt-MAX_TAKEN_CELLS.false;
      text_in = c.if-text-gt-MAX_TAKEN_TEXT.false;
    }
