use Rattle.std.proofs.Common.{◌∙◌, arith}
use Rattle.quarkus_cli.proofs.Writing.{write_on, write_torn}
use Rattle.quarkus_cli.proofs.delivery.write_files.Goals as goal

pub loop-file-preserved : goal.loop-file-preserved
loop-file-preserved g c =
    let writes = c.in-Ok.ensures.writes in
    let so_far = c.loop-file.invariant in (
      writes.reads ∙ so_far.0,
      writes.kept ∙ so_far.1,
      write_on _ c.loop-file.file-index c.file-item.result _ _ _ _ _ c.loop-file-test.true c.file-item.is c.as_str.ensures c.as_slice.ensures so_far.2 writes.ok,
    )

pub returns-in-Err : goal.returns-in-Err
returns-in-Err g c =
    let writes = c.in-Err.ensures.writes in
    let so_far = c.loop-file.invariant in
    record {
      reads = writes.reads ∙ so_far.0;
      later = omega (arith, writes.later, so_far.1);
      kept = tt;
      ok = tt;
      err = write_torn _ c.loop-file.file-index c.file-item.result _ _ _ _ _ c.loop-file-test.true c.file-item.is c.as_str.ensures c.as_slice.ensures so_far.2 writes.err;
      failed = λ is. rw (← so_far.1) (writes.failed is);
      not_absent = writes.not_absent;
    }
