use Rattle.std.proofs.Common.{arith, sym, ◌∙◌, true}
use Rattle.chain_builder.proofs.ListLemmas.{list_at_read}
use Rattle.chain_builder.proofs.ProducerLemmas.{rows_more, consumed_all}
use Rattle.chain_builder.proofs.producers.consumed_rows.Goals as goal

pub loop-step-preserved : goal.loop-step-preserved
loop-step-preserved c = rw c.in_ok-push.ensures.ok (rows_more (λ x. x.item) (λ _. true) (λ d. d.consumes) c.args.steps.now c.loop-step.rows c.loop-step.step-index c.in_ok-consumed_items.field-0 c.as_slice.result.now (list_at_read (λ d. d.consumes) c.args.steps.now c.loop-step.step-index c.step-item.result (omega arith) c.step-item.is ∙ sym c.as_slice.ensures) c.in_ok-consumed_items.ensures c.loop-step.invariant)

pub returns-clause-rows : goal.returns-clause-rows
returns-clause-rows c = consumed_all _ _ _ (omega arith) c.loop-step.invariant
