use Rattle.std.proofs.Common.{◌<◌, length, get_or, arith, false}
use Rattle.std.proofs.lemmas.List.{get_or_default}
use Rattle.std.proofs.lemmas.List.Elements.{Contains-get_or}
use Rattle.item_types.specs.declared.step.Produce.{Produce}
use Rattle.chain_builder.proofs.ProducerLemmas.{plain_more_yes, plain_more_no}
use Rattle.chain_builder.proofs.producers.mark_plain.Goals as goal
use Rattle.chain_builder.proofs.producers.mark_plain.Goals.{then-not-p, else-not-p}

default : Produce
default = record { item = 0; weak = false; overridable = false }

pub index_mut-requires : goal.index_mut-requires
unfolding default
index_mut-requires c = omega (arith, c.loop-p.invariant.wide, c.requires _ (Contains-get_or c.args.produces.now c.loop-p.p-index default (omega arith)))

pub loop-p-preserved : goal.loop-p-preserved
unfolding default
loop-p-preserved c =
    let within : c.loop-p.p-index < length c.args.produces.now = omega arith in
    elim c.if-not-p.branch [
      | then-not-p w ↦ rw w.plain-is (plain_more_yes c.args.plain.now.items c.args.produces.now c.loop-p.p-index (get_or c.args.produces.now c.loop-p.p-index default) c.loop-p.plain.items within (get_or_default _ _ _ _ within) (omega (arith, c.requires _ (Contains-get_or c.args.produces.now c.loop-p.p-index default within))) w.if-not-p.true c.loop-p.invariant)
      | else-not-p w ↦ rw w.plain-is (plain_more_no c.args.plain.now.items c.args.produces.now c.loop-p.p-index (get_or c.args.produces.now c.loop-p.p-index default) c.loop-p.plain.items within (get_or_default _ _ _ _ within) w.if-not-p.false c.loop-p.invariant)
    ]
