use Rattle.std.proofs.Common.{true}
use Rattle.chain_builder.proofs.ProducerLemmas.{AreRowsUpTo}
use Rattle.chain_builder.proofs.producers.consumed_rows.Given as goal

abbrev pub invariant-loop-step : goal.invariant-loop-step
invariant-loop-step l = AreRowsUpTo (λ c. c.item) (λ _. true) (λ d. d.consumes) l.steps l.rows l.step-index
