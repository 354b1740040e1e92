use Rattle.std.proofs.Common.{take}
use Rattle.chain_builder.proofs.ProducerLemmas.{ArePlainSoFar}
use Rattle.chain_builder.proofs.producers.mark_plain.Given as goal

abbrev pub invariant-loop-p : goal.invariant-loop-p
invariant-loop-p l = ArePlainSoFar l.fn.plain.items (take l.p-index l.produces) l.plain.items
