use Rattle.std.proofs.Common.{rules, ◌≡◌, ◌∙◌, arith, ◌++◌, ◌∷◌, [], length}
use Rattle.ext_draft.specs.Places.{shown}
use Rattle.ext_draft.proofs.OneMore.{one_more_recorder}
use Rattle.ext_draft.proofs.recorder.recorders_at.Goals as goal

pub loop-index-preserved : goal.loop-index-preserved
loop-index-preserved c =
    let path = shown c.args.prefix.now ++ c.args.key.now in
    let more = one_more_recorder c.loop-index.found c.in-Ok.recorder c.loop-index.methods path c.loop-index.index c.index-values-index.result c.args.values.now
    (omega arith) c.index-values-index.is c.in-Ok.ensures.answer in
    let pushed : c.push.new.self ≡ c.loop-index.found ++ c.in-Ok.recorder ∷ [] = search rules in
    let counted : c.len-methods.result ≡ length c.in-Ok.recorder.methods = search rules in
    record {
      rest = rw (pushed, counted) (c.loop-index.invariant.rest ∙ more);
      few = omega (arith, counted, c.in-Ok.ensures.few);
    }
