use Rattle.chain_builder.specs.ProducerRows.{counts_as}
use Rattle.chain_builder.specs.EffectiveProducer.{produced}
use Rattle.chain_builder.proofs.ProducerLemmas.{AreRowsUpTo}
use Rattle.chain_builder.proofs.producers.effective_rows.Given as goal

abbrev pub invariant-loop-step : goal.invariant-loop-step
invariant-loop-step l = AreRowsUpTo (λ p. p.item) (counts_as l.plain l.strong) produced l.steps l.rows l.step-index
