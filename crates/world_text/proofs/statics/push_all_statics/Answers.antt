use Rattle.std.proofs.Common.{◌++◌, List, ℕ, refl, sym, ap, ◌∙◌, arith, string_bytes, append-nil}
use Rattle.item_types.specs.declared.decl.RecorderDecl.{RecorderDecl}
use Rattle.startup_rules.specs.declared.slot.Slot.{Slot}
use Rattle.world_text.specs.WorldText.{statics_text, recorders_text}
use Rattle.world_text.proofs.Joining.{paired_end}
use Rattle.world_text.proofs.Texts.{recorders_short}
use Rattle.world_text.proofs.statics.push_all_statics.Goals as goal

pub returns : goal.returns
returns c =
    let k = paired_end (λ (d : RecorderDecl) (row : List Slot). statics_text c.args.numbers.now d.name d.statics row) (recorders_text c.args.numbers.now) (λ x xs y ys. refl) (λ ys. refl) (recorders_short c.args.numbers.now) c.args.decls.now c.args.rows.now c.loop-i.i (omega arith) in
    sym (append-nil (string_bytes c.loop-i.out)) ∙ (ap (λ (l : List ℕ). string_bytes c.loop-i.out ++ l) (sym k) ∙ c.loop-i.invariant)
