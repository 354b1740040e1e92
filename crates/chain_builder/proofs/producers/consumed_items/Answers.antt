use Rattle.std.proofs.Common.{◌<◌, length, get_or, arith, false, true, refl}
use Rattle.std.proofs.lemmas.List.{get_or_default}
use Rattle.item_types.specs.declared.step.Consume.{Consume}
use Rattle.chain_builder.proofs.ProducerLemmas.{items_more_yes}
use Rattle.chain_builder.proofs.producers.consumed_items.Goals as goal

default : Consume
default = record { item = 0; optional = false }

pub loop-c-preserved : goal.loop-c-preserved
unfolding default
loop-c-preserved c =
    let within : c.loop-c.c-index < length c.args.consumes.now = omega arith in
    rw c.in_ok-push.ensures.ok (items_more_yes (λ x. x.item) (λ _. true) c.args.consumes.now c.loop-c.c-index (get_or c.args.consumes.now c.loop-c.c-index default) c.loop-c.items within (get_or_default _ _ _ _ within) refl c.loop-c.invariant)
