use Rattle.std.proofs.Common.{arith, subst, sym, Contains, inl, inr}
use Rattle.std.proofs.lemmas.Bool.{cases_eq}
use Rattle.chain_builder.proofs.cycle.first_in_core.Goals as goal

pub loop-s-preserved : goal.loop-s-preserved
loop-s-preserved c k h = elim (cases_eq k c.loop-s.s) [
  | inl e ↦ subst (Contains c.args.removed.now.items) (sym e) (c.contains.ensures.0 c.if-not-contains.false)
  | inr ne ↦ c.loop-s.invariant k (omega arith)
]
