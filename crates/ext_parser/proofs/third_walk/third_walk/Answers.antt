use Rattle.ext_draft.specs.declared.draft.DraftExtension.{DraftExtension}
use Rattle.ext_parser.specs.declared.texts.Texts.{Texts}
use Rattle.ext_parser.proofs.Trees.{trees-stop, trees-on, few-on}
use Rattle.ext_parser.proofs.third_walk.third_walk.Goals as goal

pub returns-in-Err : goal.returns-in-Err
returns-in-Err c =
    let r = c.args.reading.now in
    trees-stop c.in-Err.fault r.names.now r.items.now r.on.now c.loop-index.index c.index-extensions-index.result c.args.extensions.now c.loop-index.found _
    c.loop-index-test.true c.index-extensions-index.is
    (rw (c.as_str.ensures.value, c.in_ok-prefix.ensures, c.len-first.ensures) at c.in-Err.ensures.answer)
    c.loop-index.invariant.rest

pub loop-index-preserved : goal.loop-index-preserved
loop-index-preserved c =
    let r = c.args.reading.now in
    let e : DraftExtension = c.index-extensions-index.result in
    let found : Texts = c.loop-index.found in
    record {
      rest = trees-on r.names.now r.items.now r.on.now c.loop-index.index e c.args.extensions.now found c.in-Ok.more c.in_ok-found-in-Ok.found _
          c.loop-index-test.true c.index-extensions-index.is
          (rw (c.as_str.ensures.value, c.in_ok-prefix.ensures, c.len-first.ensures) at c.in-Ok.ensures.answer)
          c.in_ok-found-in-Ok.ensures c.loop-index.invariant.rest;
      few = few-on c.loop-index.index e c.args.extensions.now found c.in-Ok.more c.in_ok-found-in-Ok.found
          c.loop-index-test.true c.index-extensions-index.is c.in-Ok.ensures.many c.in_ok-found-in-Ok.ensures c.loop-index.invariant.few;
    }
