use Rattle.std.proofs.Common.{◌≡◌, ℕ, ◌<◌, List, length, get_or, arith, subst, sym, ◌∙◌, Contains, inl, inr, true, false}
use Rattle.std.proofs.lemmas.List.{get_or_default, take_all}
use Rattle.chain_builder.proofs.ListLemmas.{in_front_cases}
use Rattle.chain_builder.proofs.faults.any_needed.Goals as goal

pub loop-s-preserved : goal.loop-s-preserved
loop-s-preserved c s h n =
    let within : c.loop-s.s-index < length c.args.row.now = omega arith in
    elim (in_front_cases c.args.row.now c.loop-s.s-index (get_or c.args.row.now c.loop-s.s-index 0) s within (get_or_default _ _ _ _ within) h) [
      | inl old ↦ c.loop-s.invariant s old n
      | inr e ↦ absurd (let z : true ≡ false = sym (c.contains.ensures.1 (subst (Contains c.args.needed.now.items) e n)) ∙ c.if-contains.false in cc)
    ]

pub returns : goal.returns
returns c = (λ f. absurd (cc), λ h. absurd (c.loop-s.invariant h.0 (subst (λ (xs : List ℕ). Contains xs h.0) (sym (take_all c.loop-s.s-index c.args.row.now (omega arith))) h.1) h.2))
