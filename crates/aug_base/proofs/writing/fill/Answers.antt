use Rattle.std.proofs.Common.{arith, length-drop}
use Rattle.std.proofs.lemmas.List.{take_rest}
use Rattle.aug_base.proofs.Parts.{grow_more}
use Rattle.aug_base.proofs.writing.fill.Goals as goal

pub loop-done-preserved : goal.loop-done-preserved
loop-done-preserved g c =
    let so_far = c.loop-done.invariant in
    let within = rw (take_rest c.args.bytes.now c.loop-done.done) at c.in-Some.ensures.within in
    let more = rw (take_rest c.args.bytes.now c.loop-done.done) at c.in-Some.ensures.ok in
    record {
      within = omega (arith, so_far.within, within, length-drop c.loop-done.done c.args.bytes.now);
      later = omega (arith, so_far.later, c.in-Some.ensures.later);
      files = grow_more _ _ c.loop-done.done c.in-Some.count _ _ _ so_far.files more;
    }
