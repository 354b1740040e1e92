use Rattle.value_literals.proofs.Steps.{next_run}
use Rattle.value_literals.proofs.ops.run_ops.Goals as goal

pub loop-j-preserved : goal.loop-j-preserved
loop-j-preserved c = next_run c.args.class.now c.loop-j.j c.args.count c.loop-j.code c.push_part_call.new.code _ c.loop-j-test.true c.in_ok-push_part_call.ensures c.loop-j.invariant
