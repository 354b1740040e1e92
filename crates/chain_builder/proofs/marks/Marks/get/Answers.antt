use Rattle.std.proofs.Common.{length, arith, ap}
use Rattle.std.proofs.lemmas.List.Elements.{Contains-get_or}
use Rattle.chain_builder.proofs.MarkLemmas.{item_within}
use Rattle.chain_builder.proofs.marks.Marks.get.Goals as goal

pub returns-clause-bound : goal.returns-clause-bound
returns-clause-bound c = rw (← c.self.view_is, c.as_slice.ensures) (item_within _ _ _ c.self.invariant (Contains-get_or _ _ _ (omega (arith, ap (λ s. length s.items) c.self.view_is))))
