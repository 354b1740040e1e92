use Rattle.std.proofs.Common.{◌<◌, ℕ, subst, Contains}
use Rattle.chain_builder.specs.Marks.{Numbers}
use Rattle.chain_builder.proofs.MarkLemmas.{item_within}
use Rattle.chain_builder.proofs.marks.Marks.limit.Goals as goal

pub returns-clause-bound : goal.returns-clause-bound
returns-clause-bound c = subst (λ (s : Numbers). (x : ℕ) → Contains s.items x → x < s.limit) c.self.view_is (λ x h. item_within _ _ _ c.self.invariant h)
