use Rattle.std.proofs.Common.{ℕ, List, arith, subst, ap, length, Contains, true, false}
use Rattle.chain_builder.specs.Rows.{row, IsTransposed}
use Rattle.chain_builder.proofs.ChainLemmas.{produced_below, consumed_below}
use Rattle.chain_builder.proofs.BuildLemmas.{strong_table, effective_rows_are, rows_below, consumed_rows_below, table_below, dependents_below, into_are}
use Rattle.chain_builder.proofs.build.tables_of.Goals as goal

pub plain_items-requires : goal.plain_items-requires
plain_items-requires c s p h = produced_below c.args.steps.now c.args.items.now c.args.finals.now c.requires s p h

pub effective_rows-requires-clause-below : goal.effective_rows-requires-clause-below
effective_rows-requires-clause-below c x p h = omega (arith, c.deref.ensures.len, c.in_ok-plain.ensures.width, produced_below c.args.steps.now c.args.items.now c.args.finals.now c.requires x p h)

pub transposed-requires-clause-below : goal.transposed-requires-clause-below
transposed-requires-clause-below c = rw c.as_slice.ensures (rows_below c.args.steps.now (length c.args.items.now) true c.in_ok-strong_rows.strong_rows (produced_below c.args.steps.now c.args.items.now c.args.finals.now c.requires) c.in_ok-strong_rows.ensures.rows)

pub needed_steps-requires-clause-consumed : goal.needed_steps-requires-clause-consumed
needed_steps-requires-clause-consumed c = rw c.as_slice-2.ensures c.in_ok-consumed.ensures.rows

pub needed_steps-requires-clause-producers : goal.needed_steps-requires-clause-producers
needed_steps-requires-clause-producers c = rw c.as_slice-3.ensures (strong_table c.args.steps.now c.in_ok-strong_rows.strong_rows c.in_ok-strong.strong (subst (λ (xs : List (List ℕ)). IsTransposed xs c.in_ok-strong.strong) c.as_slice.ensures c.in_ok-strong.ensures.transposed) c.in_ok-strong_rows.ensures.rows)

pub needed_steps-requires-clause-items : goal.needed_steps-requires-clause-items
needed_steps-requires-clause-items c a b h = omega (arith, ap length c.as_slice-3.ensures, c.in_ok-strong.ensures.width, consumed_rows_below c.args.steps.now (length c.args.items.now) c.in_ok-consumed.consumed (consumed_below c.args.steps.now c.args.items.now c.args.finals.now c.requires) c.in_ok-consumed.ensures.rows a b (subst (λ (xs : List (List ℕ)). Contains (row xs a) b) c.as_slice-2.ensures h))

pub needed_steps-requires-clause-finals : goal.needed_steps-requires-clause-finals
needed_steps-requires-clause-finals c t h = omega (arith, ap length c.as_slice-3.ensures, c.in_ok-strong.ensures.width, c.requires.wanted t h)

pub needed_steps-requires-clause-steps : goal.needed_steps-requires-clause-steps
needed_steps-requires-clause-steps c a b h = omega (arith, c.in_ok-strong_rows.ensures.count, table_below c.in_ok-strong_rows.strong_rows c.in_ok-strong.strong (subst (λ (xs : List (List ℕ)). IsTransposed xs c.in_ok-strong.strong) c.as_slice.ensures c.in_ok-strong.ensures.transposed) a b (subst (λ (xs : List (List ℕ)). Contains (row xs a) b) c.as_slice-3.ensures h))

pub effective_rows-requires-2-clause-below : goal.effective_rows-requires-2-clause-below
effective_rows-requires-2-clause-below c x p h = omega (arith, c.deref-2.ensures.len, c.in_ok-plain.ensures.width, produced_below c.args.steps.now c.args.items.now c.args.finals.now c.requires x p h)

pub dependents-requires-clause-consumed : goal.dependents-requires-clause-consumed
dependents-requires-clause-consumed c = rw c.as_slice-4.ensures c.in_ok-consumed.ensures.rows

pub dependents-requires-clause-effective : goal.dependents-requires-clause-effective
dependents-requires-clause-effective c = rw c.as_slice-5.ensures (effective_rows_are c.args.steps.now c.in_ok-effective.effective c.in_ok-effective.ensures.rows)

pub dependents-requires-clause-consumed_below : goal.dependents-requires-clause-consumed_below
dependents-requires-clause-consumed_below c = rw c.as_slice-4.ensures (consumed_rows_below c.args.steps.now (length c.args.items.now) c.in_ok-consumed.consumed (consumed_below c.args.steps.now c.args.items.now c.args.finals.now c.requires) c.in_ok-consumed.ensures.rows)

pub dependents-requires-clause-effective_below : goal.dependents-requires-clause-effective_below
dependents-requires-clause-effective_below c = rw c.as_slice-5.ensures (rows_below c.args.steps.now (length c.args.items.now) false c.in_ok-effective.effective (produced_below c.args.steps.now c.args.items.now c.args.finals.now c.requires) c.in_ok-effective.ensures.rows)

pub transposed-requires-2-clause-below : goal.transposed-requires-2-clause-below
transposed-requires-2-clause-below c = rw c.as_slice-6.ensures (dependents_below c.args.steps.now c.args.finals.now c.in_ok-dependents.dependents c.in_ok-dependents.ensures.edges)

pub returns : goal.returns
returns c = record {
  limit = c.in_ok-needed.ensures.limit;
  needed = c.in_ok-needed.ensures.needed;
  effective = effective_rows_are c.args.steps.now c.in_ok-effective.effective c.in_ok-effective.ensures.rows;
  effective_count = c.in_ok-effective.ensures.count;
  into_count = c.in_ok-into.ensures.width;
  into = into_are c.args.steps.now c.args.finals.now c.in_ok-dependents.dependents c.in_ok-into.into (subst (λ (xs : List (List ℕ)). IsTransposed xs c.in_ok-into.into) c.as_slice-6.ensures c.in_ok-into.ensures.transposed) c.in_ok-dependents.ensures.edges;
  into_rise = c.in_ok-into.ensures.ascending;
  dependents_count = c.in_ok-dependents.ensures.count;
  dependents = c.in_ok-dependents.ensures.edges;
  dependents_rise = c.in_ok-dependents.ensures.ascending;
}
