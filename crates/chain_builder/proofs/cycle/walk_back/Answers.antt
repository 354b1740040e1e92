use Rattle.std.proofs.Common.{◌≡◌, ℕ, List, subst, sym, ◌∙◌, Contains, true, false}
use Rattle.std.specs.List.Sorted.{IsStrictlyIncreasing}
use Rattle.chain_builder.specs.Rows.{row}
use Rattle.chain_builder.specs.Turn.{IsFirstLeft}
use Rattle.chain_builder.proofs.RowLemmas.{row_read}
use Rattle.chain_builder.proofs.CycleLemmas.{walking_more}
use Rattle.chain_builder.proofs.cycle.walk_back.Goals as goal

pub next_in_core-step-requires-clause-ascending : goal.next_in_core-step-requires-clause-ascending
next_in_core-step-requires-clause-ascending c = subst IsStrictlyIncreasing (row_read c.args.into.now c.loop-walk.step c.index-into-step.result c.loop-walk.invariant.within c.index-into-step.is ∙ sym c.as_slice.ensures) (c.requires.ascending c.loop-walk.step)

pub next_in_core-step-requires-clause-some : goal.next_in_core-step-requires-clause-some
next_in_core-step-requires-clause-some c =
    let is : row c.args.into.now c.loop-walk.step ≡ c.as_slice.result.now = row_read c.args.into.now c.loop-walk.step c.index-into-step.result c.loop-walk.invariant.within c.index-into-step.is ∙ sym c.as_slice.ensures in
    let f = c.requires.left c.loop-walk.step c.loop-walk.invariant.within c.loop-walk.invariant.walking.stays in
    (f.0, subst (λ (xs : List ℕ). Contains xs f.0) is f.2, f.3)

pub loop-walk-preserved : goal.loop-walk-preserved
loop-walk-preserved c =
    let is : row c.args.into.now c.loop-walk.step ≡ c.as_slice.result.now = row_read c.args.into.now c.loop-walk.step c.index-into-step.result c.loop-walk.invariant.within c.index-into-step.is ∙ sym c.as_slice.ensures in
    let first : IsFirstLeft (row c.args.into.now c.loop-walk.step) c.args.removed.now.items c.next_in_core-step.result = subst (λ (xs : List ℕ). IsFirstLeft xs c.args.removed.now.items c.next_in_core-step.result) (sym is) c.next_in_core-step.ensures in
    let fresh : Contains c.loop-walk.walk.items c.loop-walk.step → ⊥ = λ h. let z : true ≡ false = sym (c.contains.ensures.1 h) ∙ c.loop-walk-test.true in cc in
    record {
      limit = c.in_ok-add.ensures.limit ∙ c.loop-walk.invariant.limit;
      within = c.requires.below c.loop-walk.step c.next_in_core-step.result first.there;
      walking = rw (c.in_ok-add.ensures.fresh fresh) (walking_more c.args.into.now c.args.removed.now.items c.args.start c.loop-walk.walk.items c.loop-walk.step c.next_in_core-step.result fresh first c.loop-walk.invariant.walking);
    }
