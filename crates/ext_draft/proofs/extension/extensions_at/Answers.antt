use Rattle.std.proofs.Common.{rules, ◌≡◌, ◌∙◌, arith, ◌++◌, ◌∷◌, []}
use Rattle.ext_draft.specs.FirstWalk.{sums_with}
use Rattle.ext_draft.specs.Places.{shown}
use Rattle.ext_draft.proofs.OneMore.{one_more_extension}
use Rattle.ext_draft.proofs.extension.extensions_at.Goals as goal

pub loop-index-preserved : goal.loop-index-preserved
loop-index-preserved c =
    let path = shown c.args.prefix.now ++ c.args.key.now in
    let more = one_more_extension c.loop-index.found c.in-Ok.extension c.loop-index.sums path c.loop-index.index c.index-values-index.result c.args.values.now
    (omega arith) c.index-values-index.is c.in-Ok.ensures.answer in
    let pushed : c.push.new.self ≡ c.loop-index.found ++ c.in-Ok.extension ∷ [] = search rules in
    let summed : c.sums_with-sums.result ≡ sums_with c.loop-index.sums c.in-Ok.extension = c.sums_with-sums.ensures in
    record {
      rest = rw (pushed, summed) (c.loop-index.invariant.rest ∙ more);
      within = rw summed c.in-Ok.ensures.within;
    }
