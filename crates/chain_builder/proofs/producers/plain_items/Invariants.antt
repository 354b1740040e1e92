use Rattle.std.proofs.Common.{◌≡◌, vec_len}
use Rattle.chain_builder.proofs.ProducerLemmas.{ArePlainUpTo}
use Rattle.chain_builder.proofs.producers.plain_items.Given as goal

abbrev pub invariant-loop-step : goal.invariant-loop-step
invariant-loop-step l = record {
  wide : vec_len l.plain ≡ l.width;
  plain : ArePlainUpTo l.steps l.step-index l.plain.items;
}
