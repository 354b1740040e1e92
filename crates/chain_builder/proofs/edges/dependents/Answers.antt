use Rattle.std.proofs.Common.{ℕ, List, length, arith, subst, ap, Contains}
use Rattle.chain_builder.specs.Rows.{row, IsTransposed, IsJoined}
use Rattle.chain_builder.proofs.BuildLemmas.{table_below}
use Rattle.chain_builder.proofs.EdgeLemmas.{marked_below, edges_are}
use Rattle.chain_builder.proofs.edges.dependents.Goals as goal

pub transposed-requires-clause-below : goal.transposed-requires-clause-below
transposed-requires-clause-below c = rw c.as_slice.ensures (marked_below c.args.needed.now.items c.args.effective.now c.in_ok-made.made c.args.width c.requires.effective_below c.in_ok-made.ensures.rows)

pub joined-requires-clause-below : goal.joined-requires-clause-below
joined-requires-clause-below c a b h = omega (arith, ap length c.as_slice-3.ensures, c.in_ok-producers.ensures.width, marked_below c.args.needed.now.items c.args.consumed.now c.in_ok-wanted.wanted c.args.width c.requires.consumed_below c.in_ok-wanted.ensures.rows a b (subst (λ (xs : List (List ℕ)). Contains (row xs a) b) c.as_slice-2.ensures h))

pub joined-requires-clause-links : goal.joined-requires-clause-links
joined-requires-clause-links c a b h = omega (arith, c.in_ok-made.ensures.count, c.requires.effective_count, table_below c.in_ok-made.made c.in_ok-producers.producers (subst (λ (xs : List (List ℕ)). IsTransposed xs c.in_ok-producers.producers) c.as_slice.ensures c.in_ok-producers.ensures.transposed) a b (subst (λ (xs : List (List ℕ)). Contains (row xs a) b) c.as_slice-3.ensures h))

pub returns-clause-edges : goal.returns-clause-edges
returns-clause-edges c = edges_are c.args.steps.now c.args.finals.now c.args.needed.now c.args.consumed.now c.args.effective.now c.in_ok-wanted.wanted c.in_ok-made.made c.in_ok-producers.producers c.in_ok-rows.rows c.requires.needed c.requires.consumed c.requires.effective c.in_ok-wanted.ensures.rows c.in_ok-made.ensures.rows
    (subst (λ (xs : List (List ℕ)). IsTransposed xs c.in_ok-producers.producers) c.as_slice.ensures c.in_ok-producers.ensures.transposed)
    (subst (λ (xs : List (List ℕ)). IsJoined xs c.in_ok-producers.producers c.in_ok-rows.rows) c.as_slice-2.ensures (subst (λ (ys : List (List ℕ)). IsJoined c.as_slice-2.result.now ys c.in_ok-rows.rows) c.as_slice-3.ensures c.in_ok-rows.ensures.joined))
