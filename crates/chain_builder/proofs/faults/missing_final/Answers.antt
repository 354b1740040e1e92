use Rattle.std.proofs.Common.{◌≡◌, get_or, arith, sym, ap, ◌∙◌, inl, inr, true, false}
use Rattle.std.proofs.lemmas.List.Elements.{Contains-get_or}
use Rattle.std.proofs.lemmas.Bool.{cases_eq}
use Rattle.chain_builder.proofs.faults.missing_final.Goals as goal

pub bounds-lacking-t : goal.bounds-lacking-t
bounds-lacking-t c = c.requires.finals _ (Contains-get_or c.args.finals.now c.loop-t.t-index 0 (omega arith))

pub loop-t-preserved : goal.loop-t-preserved
loop-t-preserved c j h inside l = elim (cases_eq j c.loop-t.t-index) [
  | inl e ↦ absurd (let z : true ≡ false = sym ((c.requires.lacking (get_or c.args.finals.now j 0)).1 l) ∙ (ap (λ n. get_or c.args.lacking.now (get_or c.args.finals.now n 0) false) e ∙ c.if-lacking-t.false) in cc)
  | inr ne ↦ c.loop-t.invariant j (omega arith) inside l
]

pub returns-clause-none : goal.returns-clause-none
returns-clause-none c j h inside l = c.loop-t.invariant j (omega arith) inside l
