use Rattle.std.proofs.lemmas.List.{length_push}
use Rattle.std.proofs.Common.{ℕ, ◌+◌, ap, length, List, arith, subst, sym, ◌∙◌, Contains, ◌↔◌}
use Rattle.chain_builder.specs.EffectiveProducer.{IsEffectiveProducer}
use Rattle.chain_builder.proofs.RowLemmas.{row_read}
use Rattle.chain_builder.proofs.FaultLemmas.{flags_more, flags_all}
use Rattle.chain_builder.proofs.faults.lacking_items.Goals as goal

pub is_lacking-requires-clause-producers : goal.is_lacking-requires-clause-producers
is_lacking-requires-clause-producers c s = subst (λ (xs : List ℕ). Contains xs s ↔ IsEffectiveProducer c.args.steps.now s c.loop-t.t) (row_read c.args.producers.now c.loop-t.t c.index-producers-t.result (omega arith) c.index-producers-t.is ∙ sym c.as_slice.ensures) (c.requires.producers c.loop-t.t s)

pub loop-t-preserved : goal.loop-t-preserved
loop-t-preserved c = record {
  count = ap length c.in_ok-push.ensures.ok ∙ (length_push c.loop-t.lacking c.is_lacking.result ∙ ap (λ n. n + 1) c.loop-t.invariant.count);
  flags = rw c.in_ok-push.ensures.ok (flags_more c.args.steps.now c.args.items.now c.args.finals.now c.loop-t.lacking c.loop-t.t c.is_lacking.result (omega arith) c.is_lacking.ensures c.loop-t.invariant.flags);
}

pub returns-clause-lacking : goal.returns-clause-lacking
returns-clause-lacking c = flags_all c.args.steps.now c.args.items.now c.args.finals.now c.loop-t.lacking c.loop-t.t (omega arith) (omega arith) c.loop-t.invariant.flags
