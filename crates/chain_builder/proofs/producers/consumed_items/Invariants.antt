use Rattle.std.proofs.Common.{take, true}
use Rattle.chain_builder.specs.ProducerRows.{AreItemsOf}
use Rattle.chain_builder.proofs.producers.consumed_items.Given as goal

abbrev pub invariant-loop-c : goal.invariant-loop-c
invariant-loop-c l = AreItemsOf (λ c. c.item) (λ _. true) (take l.c-index l.consumes) l.items
