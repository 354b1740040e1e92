use Rattle.std.proofs.Common.{◌++◌, List, ℕ, refl, sym, ap, ◌∙◌, arith, string_bytes, append-nil}
use Rattle.world_text.specs.WorldText.{static_text, statics_text}
use Rattle.world_text.proofs.Joining.{paired_end}
use Rattle.world_text.proofs.Texts.{statics_short}
use Rattle.world_text.proofs.statics.push_statics.Goals as goal

pub returns : goal.returns
returns c =
    let k = paired_end (static_text c.args.numbers.now c.args.recorder.now) (statics_text c.args.numbers.now c.args.recorder.now) (λ x xs y ys. refl) (λ ys. refl) (statics_short c.args.numbers.now c.args.recorder.now) c.args.fields.now c.args.slots.now c.loop-i.i (omega arith) in
    sym (append-nil (string_bytes c.loop-i.out)) ∙ (ap (λ (l : List ℕ). string_bytes c.loop-i.out ++ l) (sym k) ∙ c.loop-i.invariant)
