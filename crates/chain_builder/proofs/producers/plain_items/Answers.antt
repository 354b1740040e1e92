use Rattle.std.proofs.Common.{◌≡◌, List, arith, subst, sym, ◌∙◌, Contains}
use Rattle.item_types.specs.declared.step.Produce.{Produce}
use Rattle.chain_builder.specs.EffectiveProducer.{productions, produced}
use Rattle.chain_builder.proofs.ListLemmas.{list_at_read}
use Rattle.chain_builder.proofs.ProducerLemmas.{plain_upto_more, upto_all}
use Rattle.chain_builder.proofs.producers.plain_items.Goals as goal

pub mark_plain-requires : goal.mark_plain-requires
mark_plain-requires c p h =
    let is : productions c.args.steps.now c.loop-step.step-index ≡ c.produced_by.result.now = list_at_read produced c.args.steps.now c.loop-step.step-index c.step-item.result (omega arith) c.step-item.is ∙ sym c.produced_by.ensures in
    omega (arith, c.requires c.loop-step.step-index p (subst (λ (ps : List Produce). Contains ps p) (sym is) h))

pub loop-step-preserved : goal.loop-step-preserved
loop-step-preserved c = record {
  wide = omega (arith, c.mark_plain.ensures.width);
  plain = plain_upto_more c.args.steps.now c.loop-step.step-index c.loop-step.plain.items c.mark_plain.new.plain.items c.produced_by.result.now (list_at_read produced c.args.steps.now c.loop-step.step-index c.step-item.result (omega arith) c.step-item.is ∙ sym c.produced_by.ensures) c.mark_plain.ensures.marks c.loop-step.invariant.plain;
}

pub returns-clause-plain : goal.returns-clause-plain
returns-clause-plain c = upto_all _ _ _ (omega arith) c.loop-step.invariant.plain
