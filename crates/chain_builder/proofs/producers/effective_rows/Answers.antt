use Rattle.std.proofs.Common.{◌≡◌, List, arith, subst, sym, ◌∙◌, Contains}
use Rattle.item_types.specs.declared.step.Produce.{Produce}
use Rattle.chain_builder.specs.EffectiveProducer.{productions, produced}
use Rattle.chain_builder.specs.ProducerRows.{counts_as}
use Rattle.chain_builder.proofs.ListLemmas.{list_at_read}
use Rattle.chain_builder.proofs.ProducerLemmas.{rows_more, effective_all}
use Rattle.chain_builder.proofs.producers.effective_rows.Goals as goal

pub effective_items-requires : goal.effective_items-requires
effective_items-requires c p h =
    let is : productions c.args.steps.now c.loop-step.step-index ≡ c.produced_by.result.now = list_at_read produced c.args.steps.now c.loop-step.step-index c.step-item.result (omega arith) c.step-item.is ∙ sym c.produced_by.ensures in
    omega (arith, c.requires.below c.loop-step.step-index p (subst (λ (ps : List Produce). Contains ps p) (sym is) h))

pub loop-step-preserved : goal.loop-step-preserved
loop-step-preserved c = rw c.in_ok-push.ensures.ok (rows_more (λ x. x.item) (counts_as c.args.plain.now c.args.strong) produced c.args.steps.now c.loop-step.rows c.loop-step.step-index c.in_ok-effective_items.field-0 c.produced_by.result.now (list_at_read produced c.args.steps.now c.loop-step.step-index c.step-item.result (omega arith) c.step-item.is ∙ sym c.produced_by.ensures) c.in_ok-effective_items.ensures c.loop-step.invariant)

pub returns-clause-rows : goal.returns-clause-rows
returns-clause-rows c = effective_all _ _ _ _ _ (omega arith) c.requires.plain c.loop-step.invariant
