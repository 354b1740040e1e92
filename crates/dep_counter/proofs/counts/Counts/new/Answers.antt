use Rattle.std.proofs.Common.{length, arith, ap}
use Rattle.dep_counter.specs.Counting.{Leads}
use Rattle.dep_counter.proofs.Lowering.{one_more, fresh_counts}
use Rattle.dep_counter.proofs.counts.Counts.new.Goals as goal

pub loop-step-preserved : goal.loop-step-preserved
loop-step-preserved c =
    let w = one_more (λ s p. Leads c.args.plan.now p s) c.loop-step.counts c.push.new.self c.in_ok-count_into.field-0 c.loop-step.step c.loop-step.invariant.wide c.loop-step.invariant.exact c.in_ok-count_into.ensures c.in_ok-push.ensures.ok in
    record { wide = w.0; exact = w.1 }

pub returns : goal.returns
returns c = fresh_counts c.args.plan.now c.loop-step.counts c.into_vec.result.items c.loop-step.step c.into_vec.ensures c.loop-step.invariant.wide c.loop-step.invariant.exact (omega (arith, c.loop-step-test.false, c.loop-step.auto.step-end, c.len-step-end.ensures, ap length c.steps.ensures))
