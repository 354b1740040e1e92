use Rattle.std.proofs.Common.{◌≡◌, ℕ, ◌<◌, List, length, arith, subst, sym, ◌∙◌, Contains, ◌↔◌}
use Rattle.std.specs.List.Sorted.{IsStrictlyIncreasing}
use Rattle.chain_builder.specs.Rows.{row, AddsToRows}
use Rattle.chain_builder.proofs.RowLemmas.{made_more, row_read, is_made, row_within}
use Rattle.chain_builder.proofs.rows.transposed.Goals as goal

pub note_all-requires-clause-keys : goal.note_all-requires-clause-keys
note_all-requires-clause-keys c b h =
    let is : row c.args.rows.now c.loop-a.a ≡ c.as_slice.result.now = row_read c.args.rows.now c.loop-a.a c.index-rows-a.result (omega arith) c.index-rows-a.is ∙ sym c.as_slice.ensures in
    omega (arith, c.requires.below c.loop-a.a b (subst (λ (t : List ℕ). Contains t b) (sym is) h))

pub loop-a-preserved : goal.loop-a-preserved
loop-a-preserved c =
    let is : row c.args.rows.now c.loop-a.a ≡ c.as_slice.result.now = row_read c.args.rows.now c.loop-a.a c.index-rows-a.result (omega arith) c.index-rows-a.is ∙ sym c.as_slice.ensures in
    record {
      wide = omega (arith, c.in_ok-note_all.ensures.adds.wide);
      made = made_more (λ a b. Contains (row c.args.rows.now a) b) c.loop-a.table.items c.note_all.new.table.items c.loop-a.a c.loop-a.invariant.made (subst (λ (ks : List ℕ). AddsToRows c.loop-a.table.items (Contains ks) c.loop-a.a c.note_all.new.table.items) (sym is) c.in_ok-note_all.ensures.adds) c.in_ok-note_all.ensures.rising;
    }

pub returns-clause-transposed : goal.returns-clause-transposed
returns-clause-transposed c = subst (λ (t : List (List ℕ)). (a b : ℕ) → Contains (row t b) a ↔ Contains (row c.args.rows.now a) b) (sym c.from_vec.ensures) (is_made (λ a b. Contains (row c.args.rows.now a) b) c.loop-a.table.items c.loop-a.a (λ a b h. let w : a < length c.args.rows.now = row_within c.args.rows.now a b h in omega arith) c.loop-a.invariant.made)

pub returns-clause-ascending : goal.returns-clause-ascending
returns-clause-ascending c = subst (λ (t : List (List ℕ)). (a : ℕ) → IsStrictlyIncreasing (row t a)) (sym c.from_vec.ensures) (λ a. (c.loop-a.invariant.made.rising a).rising)
