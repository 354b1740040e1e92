use Rattle.std.proofs.Common.{◌<◌, length, get_or, arith, sym, ◌∙◌, false}
use Rattle.std.proofs.lemmas.List.{get_or_default}
use Rattle.std.proofs.lemmas.List.Elements.{Contains-get_or}
use Rattle.item_types.specs.declared.step.Produce.{Produce}
use Rattle.chain_builder.specs.ProducerRows.{counts_as}
use Rattle.chain_builder.proofs.ProducerLemmas.{items_more_yes, items_more_no}
use Rattle.chain_builder.proofs.producers.effective_items.Goals as goal
use Rattle.chain_builder.proofs.producers.effective_items.Goals.{then-counts+in_ok-push, else-counts}

default : Produce
default = record { item = 0; weak = false; overridable = false }

pub counts-requires : goal.counts-requires
unfolding default
counts-requires c = c.requires _ (Contains-get_or c.args.produces.now c.loop-p.p-index default (omega arith))

pub loop-p-preserved : goal.loop-p-preserved
unfolding default
loop-p-preserved c =
    let within : c.loop-p.p-index < length c.args.produces.now = omega arith in
    elim c.if-counts.branch [
      | then-counts+in_ok-push w ↦ rw w.items-is (rw w.in_ok-push.ensures.ok (items_more_yes (λ x. x.item) (counts_as c.args.plain.now c.args.strong) c.args.produces.now c.loop-p.p-index (get_or c.args.produces.now c.loop-p.p-index default) c.loop-p.items within (get_or_default _ _ _ _ within) (sym c.counts.ensures ∙ w.if-counts.true) c.loop-p.invariant))
      | else-counts w ↦ rw w.items-is (items_more_no (λ x. x.item) (counts_as c.args.plain.now c.args.strong) c.args.produces.now c.loop-p.p-index (get_or c.args.produces.now c.loop-p.p-index default) c.loop-p.items within (get_or_default _ _ _ _ within) (sym c.counts.ensures ∙ w.if-counts.false) c.loop-p.invariant)
    ]
