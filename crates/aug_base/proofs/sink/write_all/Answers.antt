use Rattle.std.proofs.Common.{◌∙◌, arith, length-drop}
use Rattle.std.proofs.lemmas.List.{take_rest}
use Rattle.aug_base.proofs.Growing.{grows_on, grows_same}
use Rattle.aug_base.proofs.sink.write_all.Goals as goal

pub loop-done-preserved : goal.loop-done-preserved
loop-done-preserved g c =
    let puts = rw (take_rest c.args.bytes.now c.loop-done.done) at c.in-Ok.ensures.puts in
    let so_far = c.loop-done.invariant in
    let within = simp length-drop at puts.within in
    (omega (arith, so_far.0), puts.kept ∙ so_far.1, grows_on _ c.loop-done.done c.in-Ok.count _ _ _ so_far.2 puts.ok)

pub returns-in-Err : goal.returns-in-Err
returns-in-Err g c =
    let puts = c.in-Err.ensures.puts in
    let so_far = c.loop-done.invariant in
    record {
      puts_all = record {
        later = omega (arith, puts.later, so_far.1);
        kept = tt;
        ok = tt;
        err = grows_same _ c.loop-done.done _ _ _ so_far.2 puts.err;
        failed = λ is. rw (← so_far.1) (puts.failed is);
      };
      ends = λ below. c.in-Err.ensures.ends (rw so_far.1 below);
    }
