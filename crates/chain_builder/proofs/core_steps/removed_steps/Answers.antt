use Rattle.std.proofs.Common.{◌≡◌, ℕ, ◌+◌, ◌<◌, ◌≤◌, List, length, get_or, drop, arith, subst, sym, ap, ◌∙◌, Contains, inl, inr, refl}
use Rattle.std.proofs.lemmas.Bool.{cases_eq}
use Rattle.std.proofs.lemmas.List.{length-set}
use Rattle.chain_builder.specs.Rows.{row}
use Rattle.chain_builder.specs.Core.{Releases}
use Rattle.chain_builder.proofs.RowLemmas.{row_read}
use Rattle.chain_builder.proofs.CoreLemmas.{release_keeps, peeling_next, rest_cases, left_all, release_grows, dependent_within, grows_length, excuse_weaker}
use Rattle.chain_builder.proofs.core_steps.removed_steps.Goals as goal

pub release-requires-clause-passed : goal.release-requires-clause-passed
release-requires-clause-passed c =
    let is : row c.args.into.now c.loop-s.s ≡ c.as_slice.result.now = row_read c.args.into.now c.loop-s.s c.index-into-s.result (omega arith) c.index-into-s.is ∙ sym c.as_slice.ensures in
    subst (λ (xs : List ℕ). (j : ℕ) → j < get_or c.loop-s.next.items c.loop-s.s 0 → j < length xs → Contains c.loop-s.removed.items (get_or xs j 0)) is (c.loop-s.invariant.peeling.passed c.loop-s.s)

pub loop-s-preserved : goal.loop-s-preserved
loop-s-preserved c =
    let is : row c.args.into.now c.loop-s.s ≡ c.as_slice.result.now = row_read c.args.into.now c.loop-s.s c.index-into-s.result (omega arith) c.index-into-s.is ∙ sym c.as_slice.ensures in
    let r : Releases c.loop-s.removed c.loop-s.next.items (row c.args.into.now c.loop-s.s) c.loop-s.s c.release.new.removed c.release.new.next.items = subst (λ (xs : List ℕ). Releases c.loop-s.removed c.loop-s.next.items xs c.loop-s.s c.release.new.removed c.release.new.next.items) (sym is) c.in_ok-release.ensures in
    record {
      limit = c.in_ok-release.ensures.limit ∙ c.loop-s.invariant.limit;
      width = omega (arith, ap length c.in_ok-release.ensures.moved, length-set c.loop-s.next.items c.loop-s.s c.in_ok-release.ensures.place);
      peeling = release_keeps c.args.into.now c.loop-s.removed c.release.new.removed c.loop-s.next.items c.release.new.next.items 0 c.loop-s.s (λ s. c.loop-s.s ≤ s) (λ s. c.loop-s.s + 1 ≤ s) (λ s h. elim (cases_eq s c.loop-s.s) [ inl e ↦ inl e | inr ne ↦ inr (omega arith) ]) (omega arith) (omega arith) r c.loop-s.invariant.peeling;
    }

pub loop-d-init : goal.loop-d-init
loop-d-init c =
    let is : row c.args.dependents.now c.get-x.result ≡ c.as_slice-waiting.result.now = row_read c.args.dependents.now c.get-x.result c.index-dependents-x.result (omega arith) c.index-dependents-x.is ∙ sym c.as_slice-waiting.ensures in
    record {
      limit = c.loop-at.invariant.limit;
      width = c.loop-at.invariant.width;
      within = omega arith;
      peeling = excuse_weaker c.args.into.now c.loop-at.removed c.loop-at.next.items (c.loop-at.at + 1) (λ s. Contains (row c.args.dependents.now c.get-x.result) s) (λ s. Contains c.as_slice-waiting.result.now s) (λ s inside h. subst (λ (xs : List ℕ). Contains xs s) is h) (peeling_next c.args.into.now c.args.dependents.now c.loop-at.removed c.loop-at.next.items c.loop-at.at c.get-x.result c.requires.dependents (omega arith) c.get-x.ensures.value c.loop-at.invariant.peeling);
    }

pub bounds-into-d : goal.bounds-into-d
bounds-into-d c = dependent_within c.args.into.now c.args.dependents.now c.as_slice-waiting.result.now c.get-x.result c.loop-d.d-index c.requires.dependents (row_read c.args.dependents.now c.get-x.result c.index-dependents-x.result (omega arith) c.index-dependents-x.is ∙ sym c.as_slice-waiting.ensures) (omega arith)

pub release-requires-in-loop-d-clause-step : goal.release-requires-in-loop-d-clause-step
release-requires-in-loop-d-clause-step c =
    let there : get_or c.as_slice-waiting.result.now c.loop-d.d-index 0 < length c.args.into.now = dependent_within c.args.into.now c.args.dependents.now c.as_slice-waiting.result.now c.get-x.result c.loop-d.d-index c.requires.dependents (row_read c.args.dependents.now c.get-x.result c.index-dependents-x.result (omega arith) c.index-dependents-x.is ∙ sym c.as_slice-waiting.ensures) (omega arith) in
    omega (arith, c.loop-d.invariant.limit)

pub release-requires-in-loop-d-clause-passed : goal.release-requires-in-loop-d-clause-passed
release-requires-in-loop-d-clause-passed c =
    let is : row c.args.into.now (get_or c.as_slice-waiting.result.now c.loop-d.d-index 0) ≡ c.as_slice-in-loop-d.result.now = row_read c.args.into.now (get_or c.as_slice-waiting.result.now c.loop-d.d-index 0) c.index-into-d.result (dependent_within c.args.into.now c.args.dependents.now c.as_slice-waiting.result.now c.get-x.result c.loop-d.d-index c.requires.dependents (row_read c.args.dependents.now c.get-x.result c.index-dependents-x.result (omega arith) c.index-dependents-x.is ∙ sym c.as_slice-waiting.ensures) (omega arith)) c.index-into-d.is ∙ sym c.as_slice-in-loop-d.ensures in
    subst (λ (xs : List ℕ). (j : ℕ) → j < get_or c.loop-d.next.items (get_or c.as_slice-waiting.result.now c.loop-d.d-index 0) 0 → j < length xs → Contains c.loop-d.removed.items (get_or xs j 0)) is (c.loop-d.invariant.peeling.passed (get_or c.as_slice-waiting.result.now c.loop-d.d-index 0))

pub loop-d-preserved : goal.loop-d-preserved
loop-d-preserved c =
    let d : ℕ = get_or c.as_slice-waiting.result.now c.loop-d.d-index 0 in
    let within : c.loop-d.d-index < length c.as_slice-waiting.result.now = omega arith in
    let there : get_or c.as_slice-waiting.result.now c.loop-d.d-index 0 < length c.args.into.now = dependent_within c.args.into.now c.args.dependents.now c.as_slice-waiting.result.now c.get-x.result c.loop-d.d-index c.requires.dependents (row_read c.args.dependents.now c.get-x.result c.index-dependents-x.result (omega arith) c.index-dependents-x.is ∙ sym c.as_slice-waiting.ensures) (omega arith) in
    let is : row c.args.into.now (get_or c.as_slice-waiting.result.now c.loop-d.d-index 0) ≡ c.as_slice-in-loop-d.result.now = row_read c.args.into.now (get_or c.as_slice-waiting.result.now c.loop-d.d-index 0) c.index-into-d.result there c.index-into-d.is ∙ sym c.as_slice-in-loop-d.ensures in
    let r : Releases c.loop-d.removed c.loop-d.next.items (row c.args.into.now d) d c.release-in-loop-d.new.removed c.release-in-loop-d.new.next.items = subst (λ (xs : List ℕ). Releases c.loop-d.removed c.loop-d.next.items xs d c.release-in-loop-d.new.removed c.release-in-loop-d.new.next.items) (sym is) c.in_ok-release-2.ensures in
    record {
      limit = r.limit ∙ c.loop-d.invariant.limit;
      width = omega (arith, ap length r.moved, length-set c.loop-d.next.items d r.place);
      within = omega (arith, c.loop-d.invariant.within, grows_length c.loop-d.removed c.release-in-loop-d.new.removed (release_grows c.loop-d.removed c.release-in-loop-d.new.removed c.loop-d.next.items (row c.args.into.now d) d c.release-in-loop-d.new.next.items r));
      peeling = release_keeps c.args.into.now c.loop-d.removed c.release-in-loop-d.new.removed c.loop-d.next.items c.release-in-loop-d.new.next.items (c.loop-at.at + 1) d (λ s. Contains (drop c.loop-d.d-index c.as_slice-waiting.result.now) s) (λ s. Contains (drop (c.loop-d.d-index + 1) c.as_slice-waiting.result.now) s) (λ s h. rest_cases c.as_slice-waiting.result.now c.loop-d.d-index d s within refl h) (omega (arith, c.loop-d.invariant.within)) (omega (arith, there, c.loop-d.invariant.width)) r c.loop-d.invariant.peeling;
    }

pub returns-clause-left : goal.returns-clause-left
returns-clause-left c = left_all c.args.into.now c.loop-at.removed c.loop-at.next.items c.loop-at.at c.requires.below (omega arith) c.loop-at.invariant.peeling
