use Rattle.std.proofs.Common.{◌≡◌, ℕ, ◌<◌, List, length, get_or, arith, subst, sym, ◌∙◌, Contains, ◌↔◌, true, false}
use Rattle.std.proofs.lemmas.List.{get_or_default}
use Rattle.std.specs.List.Sorted.{IsStrictlyIncreasing}
use Rattle.chain_builder.specs.Rows.{row}
use Rattle.chain_builder.specs.EffectiveProducer.{IsEffectiveProducer}
use Rattle.chain_builder.proofs.RowLemmas.{row_read}
use Rattle.chain_builder.proofs.FaultLemmas.{is_duplicate, not_two, one_more, simple_within}
use Rattle.chain_builder.proofs.faults.find_duplicate.Goals as goal
use Rattle.chain_builder.proofs.faults.find_duplicate.Goals.{then-is_simple+else-row-gt1, else-is_simple}

pub returns-then-row-gt1-clause-found : goal.returns-then-row-gt1-clause-found
returns-then-row-gt1-clause-found c =
    let is : row c.args.producers.now c.loop-t.t ≡ c.as_slice-row.result.now = row_read c.args.producers.now c.loop-t.t c.index-producers-t.result (omega arith) c.index-producers-t.is ∙ sym c.as_slice-row.ensures in
    is_duplicate c.args.steps.now c.args.items.now c.loop-t.t c.as_slice-row.result.now (get_or c.as_slice-row.result.now 0 0) (get_or c.as_slice-row.result.now 1 0) (λ s. subst (λ (xs : List ℕ). Contains xs s ↔ IsEffectiveProducer c.args.steps.now s c.loop-t.t) is (c.requires.producers c.loop-t.t s)) (subst IsStrictlyIncreasing is (c.requires.ascending c.loop-t.t)) (omega arith) (get_or_default c.as_slice-row.result.now 0 0 (get_or c.as_slice-row.result.now 0 0) (omega arith)) (get_or_default c.as_slice-row.result.now 1 0 (get_or c.as_slice-row.result.now 1 0) (omega arith)) (c.is_simple.ensures.0 c.if-is_simple.true) c.loop-t.invariant

pub loop-t-preserved : goal.loop-t-preserved
loop-t-preserved c = one_more c.loop-t.t c.loop-t.invariant (λ h. elim c.if-is_simple.branch [
  | then-is_simple+else-row-gt1 w ↦
      let is : row c.args.producers.now c.loop-t.t ≡ w.as_slice-row.result.now = row_read c.args.producers.now c.loop-t.t w.index-producers-t.result (omega arith) w.index-producers-t.is ∙ sym w.as_slice-row.ensures in
      not_two c.args.steps.now c.args.items.now c.loop-t.t w.as_slice-row.result.now (λ s. subst (λ (xs : List ℕ). Contains xs s ↔ IsEffectiveProducer c.args.steps.now s c.loop-t.t) is (c.requires.producers c.loop-t.t s)) (omega arith) h
  | else-is_simple w ↦ absurd (let z : true ≡ false = sym (c.is_simple.ensures.1 h.0) ∙ w.if-is_simple.false in cc)
])

pub returns-clause-none : goal.returns-clause-none
returns-clause-none c t h = c.loop-t.invariant t (let w : t < length c.args.items.now = simple_within c.args.items.now t h.0 in omega arith) h
