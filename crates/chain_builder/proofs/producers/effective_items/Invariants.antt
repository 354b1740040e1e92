use Rattle.std.proofs.Common.{take}
use Rattle.chain_builder.specs.ProducerRows.{AreItemsOf, counts_as}
use Rattle.chain_builder.proofs.producers.effective_items.Given as goal

abbrev pub invariant-loop-p : goal.invariant-loop-p
invariant-loop-p l = AreItemsOf (λ p. p.item) (counts_as l.plain l.strong) (take l.p-index l.produces) l.items
