use Rattle.std.proofs.Common.{◌≡◌, ◌==◌, ◌↔◌, ◌∙◌, ℕ, List, length, Contains, sym, subst, ap, arith}
use Rattle.std.specs.Prelude.{slice_index_or}
use Rattle.std.specs.List.Sorted.{IsStrictlyIncreasing}
use Rattle.std.proofs.lemmas.List.Kept.{IsStrictlyIncreasing-filter}
use Rattle.dep_counter.specs.Counting.{Leads, AreCounts}
use Rattle.dep_counter.proofs.CallerLemmas.{decide}
use Rattle.dep_counter.proofs.Lowering.{counts_after, told_of, count_of, leads_within}
use Rattle.dep_counter.proofs.counts.Counts.ended.Goals as goal

pub returns-clause-counts : goal.returns-clause-counts
returns-clause-counts g c = λ list are fresh.
    counts_after c.args.plan.now list c.args.step c.as_slice-dependents.result.now c.self.inside.counts.items c.lower.new.counts.items
    (subst (λ (l : List ℕ). (s : ℕ) → Contains l s ↔ Leads c.args.plan.now c.args.step s) (sym c.as_slice-dependents.ensures) c.dependents.ensures.edges)
    (subst (AreCounts c.args.plan.now list) (sym c.self.view_is) are) fresh c.lower.ensures.lowered (decide c.as_slice-dependents.result.now)

pub returns-clause-told : goal.returns-clause-told
returns-clause-told g c = λ list are fresh.
    told_of c.args.plan.now list c.args.step c.as_slice-dependents.result.now c.self.inside.counts.items c.from_vec.result
    (subst (λ (l : List ℕ). (s : ℕ) → Contains l s ↔ Leads c.args.plan.now c.args.step s) (sym c.as_slice-dependents.ensures) c.dependents.ensures.edges)
    (λ s l. leads_within c.args.plan.now c.args.step s l) (subst (AreCounts c.args.plan.now list) (sym c.self.view_is) are) fresh (c.from_vec.ensures ∙ c.lower.ensures.told)

pub returns-clause-ascending : goal.returns-clause-ascending
returns-clause-ascending g c =
    subst IsStrictlyIncreasing (sym (c.from_vec.ensures ∙ c.lower.ensures.told))
    (IsStrictlyIncreasing-filter (λ s. slice_index_or c.self.inside.counts.items s 0 == 1) c.as_slice-dependents.result.now (subst IsStrictlyIncreasing (sym c.as_slice-dependents.ensures) c.dependents.ensures.ascending))

pub returns-clause-cost : goal.returns-clause-cost
returns-clause-cost g c = λ n many.
    let long : length c.dependents.result.now ≡ n = count_of (Leads c.args.plan.now c.args.step) n c.dependents.result.now many c.dependents.ensures.ascending c.dependents.ensures.edges in
    omega (arith, long, ap length c.as_slice-dependents.ensures, c.lower.ensures.cost, c.take.ensures)
