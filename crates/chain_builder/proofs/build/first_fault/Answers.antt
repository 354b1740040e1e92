use Rattle.std.proofs.Common.{ℕ, List, arith, subst, sym, ap, ◌∙◌, length, IfSome, IfNone}
use Rattle.chain_builder.specs.Rows.{IsTransposed}
use Rattle.chain_builder.specs.Core.{AreOutside, AreLeftWithOne, AreInOrder}
use Rattle.chain_builder.specs.ChainFaults.{IsCycle, HasNoCycle}
use Rattle.chain_builder.specs.Rank.{HasRank}
use Rattle.chain_builder.proofs.ChainLemmas.{produced_below, consumed_below}
use Rattle.chain_builder.proofs.BuildLemmas.{effective_below, producers_are, into_below, is_transposed_by, no_missing}
use Rattle.chain_builder.proofs.build.first_fault.Goals as goal

pub transposed-requires-clause-below : goal.transposed-requires-clause-below
transposed-requires-clause-below c = rw c.as_slice.ensures (effective_below c.args.steps.now (length c.args.items.now) c.args.tables.now.effective (produced_below c.args.steps.now c.args.items.now c.args.finals.now c.requires.numbered) c.requires.tables.effective)

pub find_duplicate-requires-clause-producers : goal.find_duplicate-requires-clause-producers
find_duplicate-requires-clause-producers c = rw c.as_slice-2.ensures (producers_are c.args.steps.now c.args.tables.now.effective c.in_ok-producers.producers (subst (λ (xs : List (List ℕ)). IsTransposed xs c.in_ok-producers.producers) c.as_slice.ensures c.in_ok-producers.ensures.transposed) c.requires.tables.effective)

pub find_duplicate-requires-clause-ascending : goal.find_duplicate-requires-clause-ascending
find_duplicate-requires-clause-ascending c = rw c.as_slice-2.ensures c.in_ok-producers.ensures.ascending

pub lacking_items-requires-clause-producers : goal.lacking_items-requires-clause-producers
lacking_items-requires-clause-producers c = rw c.as_slice-3.ensures (producers_are c.args.steps.now c.args.tables.now.effective c.in_ok-producers.producers (subst (λ (xs : List (List ℕ)). IsTransposed xs c.in_ok-producers.producers) c.as_slice.ensures c.in_ok-producers.ensures.transposed) c.requires.tables.effective)

pub missing_final-requires-clause-finals : goal.missing_final-requires-clause-finals
missing_final-requires-clause-finals c t h = omega (arith, ap length c.as_slice-4.ensures, c.in_ok-lacking.ensures.width, c.requires.numbered.wanted t h)

pub missing_final-requires-clause-lacking : goal.missing_final-requires-clause-lacking
missing_final-requires-clause-lacking c = rw c.as_slice-4.ensures c.in_ok-lacking.ensures.lacking

pub missing_consumed-requires-clause-below : goal.missing_consumed-requires-clause-below
missing_consumed-requires-clause-below c x k h = omega (arith, ap length c.as_slice-5.ensures, c.in_ok-lacking.ensures.width, consumed_below c.args.steps.now c.args.items.now c.args.finals.now c.requires.numbered x k h)

pub missing_consumed-requires-clause-lacking : goal.missing_consumed-requires-clause-lacking
missing_consumed-requires-clause-lacking c = rw c.as_slice-5.ensures c.in_ok-lacking.ensures.lacking

pub removed_steps-requires-clause-below : goal.removed_steps-requires-clause-below
removed_steps-requires-clause-below c = rw c.as_slice-6.ensures (λ a b h. omega (arith, c.requires.tables.into_count, into_below c.args.steps.now c.args.finals.now c.args.tables.now.into c.requires.tables.into a b h))

pub removed_steps-requires-clause-dependents : goal.removed_steps-requires-clause-dependents
removed_steps-requires-clause-dependents c = rw (c.as_slice-6.ensures, c.as_slice-7.ensures) (is_transposed_by c.args.steps.now c.args.finals.now c.args.tables.now.into c.args.tables.now.dependents c.requires.tables.into c.requires.tables.dependents)

pub find_cycle-requires-clause-edges : goal.find_cycle-requires-clause-edges
find_cycle-requires-clause-edges c = rw c.as_slice-8.ensures c.requires.tables.into

pub find_cycle-requires-clause-below : goal.find_cycle-requires-clause-below
find_cycle-requires-clause-below c = rw c.as_slice-8.ensures (λ a b h. omega (arith, c.requires.tables.into_count, into_below c.args.steps.now c.args.finals.now c.args.tables.now.into c.requires.tables.into a b h))

pub find_cycle-requires-clause-ascending : goal.find_cycle-requires-clause-ascending
find_cycle-requires-clause-ascending c = rw c.as_slice-8.ensures c.requires.tables.into_rise

pub find_cycle-requires-clause-outside : goal.find_cycle-requires-clause-outside
find_cycle-requires-clause-outside c = subst (λ (xs : List (List ℕ)). AreOutside xs c.in_ok-removed.removed) (c.as_slice-6.ensures ∙ sym c.as_slice-8.ensures) c.in_ok-removed.ensures.outside

pub find_cycle-requires-clause-left : goal.find_cycle-requires-clause-left
find_cycle-requires-clause-left c = subst (λ (xs : List (List ℕ)). AreLeftWithOne xs c.in_ok-removed.removed) (c.as_slice-6.ensures ∙ sym c.as_slice-8.ensures) c.in_ok-removed.ensures.left

pub find_cycle-requires-clause-order : goal.find_cycle-requires-clause-order
find_cycle-requires-clause-order c = subst (λ (xs : List (List ℕ)). AreInOrder xs c.in_ok-removed.removed.items) (c.as_slice-6.ensures ∙ sym c.as_slice-8.ensures) c.in_ok-removed.ensures.order

pub returns-in-Some-2-clause-fault : goal.returns-in-Some-2-clause-fault
returns-in-Some-2-clause-fault c = (c.in-None.ensures.none, no_missing c.args.steps.now c.args.items.now c.args.finals.now c.in-None-missing_final.ensures.none c.in-None-missing_consumed.ensures.none, subst (λ o. IfSome o (IsCycle c.args.steps.now c.args.finals.now)) c.in-Some-2.is c.in_ok-cycle.ensures.found)

pub returns-clause-accepted : goal.returns-clause-accepted
returns-clause-accepted c = record { no_duplicate = c.in-None.ensures.none; no_missing = no_missing c.args.steps.now c.args.items.now c.args.finals.now c.in-None-missing_final.ensures.none c.in-None-missing_consumed.ensures.none; no_cycle = subst (λ o. IfNone o (HasNoCycle c.args.steps.now c.args.finals.now)) c.in-None-2.is c.in_ok-cycle.ensures.none }

pub returns-clause-ranked : goal.returns-clause-ranked
returns-clause-ranked c = subst (λ o. IfNone o (HasRank c.args.steps.now c.args.finals.now)) c.in-None-2.is c.in_ok-cycle.ensures.ranked
