use Rattle.std.proofs.Common.{arith, ap, subst, Contains}
use Rattle.chain_builder.specs.Marks.{Numbers}
use Rattle.chain_builder.proofs.MarkLemmas.{mark_more, clear_at, set_at}
use Rattle.chain_builder.proofs.marks.Marks.add.Goals as goal

pub invariant_of-self-then-not-index : goal.invariant_of-self-then-not-index
invariant_of-self-then-not-index c = rw c.in_ok-push.ensures.ok (mark_more _ _ _ c.self.invariant (omega (arith, ap (λ s. s.limit) c.self.view_is)) (clear_at c.self.inside.flags.items c.args.x c.index.result.now c.index.ensures c.if-not-index.true))

pub returns-else-not-index-clause-fresh : goal.returns-else-not-index-clause-fresh
returns-else-not-index-clause-fresh c fresh = absurd (fresh (subst (λ (s : Numbers). Contains s.items c.args.x) c.self.view_is (c.self.invariant.listed c.args.x (set_at c.self.inside.flags.items c.args.x c.index.result.now (omega (arith, ap (λ s. s.limit) c.self.view_is)) c.index.ensures c.if-not-index.false))))
