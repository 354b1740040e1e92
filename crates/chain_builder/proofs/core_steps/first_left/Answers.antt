use Rattle.std.proofs.Common.{get_or, arith, subst, sym, Contains, inl, inr}
use Rattle.std.proofs.lemmas.Bool.{cases_eq}
use Rattle.chain_builder.proofs.core_steps.first_left.Goals as goal

pub loop-place-preserved : goal.loop-place-preserved
loop-place-preserved c j h inside = elim (cases_eq j c.loop-place.place) [
  | inl e ↦ subst (λ z. Contains c.args.removed.now.items (get_or c.args.row.now z 0)) (sym e) (c.contains.ensures.0 c.if-not-contains.false)
  | inr ne ↦ c.loop-place.invariant j (omega arith) inside
]
