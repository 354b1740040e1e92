use Rattle.chain_builder.proofs.FaultLemmas.{lacks_from, lacks_to}
use Rattle.chain_builder.proofs.faults.is_lacking.Goals as goal

pub returns-then-must_be_produced : goal.returns-then-must_be_produced
returns-then-must_be_produced c = (
  λ t. (c.must_be_produced.ensures.0 c.if-must_be_produced.true, λ s n p. lacks_from c.any_needed.result t (c.any_needed.ensures.1 (s, (c.requires.producers s).1 p, (c.requires.needed s).1 n))),
  λ l. lacks_to c.any_needed.result (λ e. let f = c.any_needed.ensures.0 e in l.1 f.0 ((c.requires.needed f.0).0 f.2) ((c.requires.producers f.0).0 f.1)),
)
