use Rattle.std.proofs.Common.{◌≡◌, ℕ, ◌<◌, List, length, arith, subst, sym, ◌∙◌, Contains, ◌↔◌}
use Rattle.std.specs.List.Sorted.{IsStrictlyIncreasing}
use Rattle.chain_builder.specs.Rows.{row, AddsToRows, IsLinkedWith}
use Rattle.chain_builder.proofs.RowLemmas.{made_more, row_read, is_made, row_within}
use Rattle.chain_builder.proofs.rows.joined.Goals as goal

pub note_linked-requires-clause-keys : goal.note_linked-requires-clause-keys
note_linked-requires-clause-keys c b h =
    let is : row c.args.rows.now c.loop-a.a ≡ c.as_slice.result.now = row_read c.args.rows.now c.loop-a.a c.index-rows-a.result (omega arith) c.index-rows-a.is ∙ sym c.as_slice.ensures in
    omega (arith, c.requires.below c.loop-a.a b (subst (λ (t : List ℕ). Contains t b) (sym is) h))

pub note_linked-requires-clause-links : goal.note_linked-requires-clause-links
note_linked-requires-clause-links c a b h = omega (arith, c.loop-a.invariant.wide, c.requires.links a b h)

pub loop-a-preserved : goal.loop-a-preserved
loop-a-preserved c =
    let is : row c.args.rows.now c.loop-a.a ≡ c.as_slice.result.now = row_read c.args.rows.now c.loop-a.a c.index-rows-a.result (omega arith) c.index-rows-a.is ∙ sym c.as_slice.ensures in
    record {
      wide = omega (arith, c.in_ok-note_linked.ensures.adds.wide);
      made = made_more (λ a z. IsLinkedWith c.args.links.now (row c.args.rows.now a) z) c.loop-a.table.items c.note_linked.new.table.items c.loop-a.a c.loop-a.invariant.made (subst (λ (ks : List ℕ). AddsToRows c.loop-a.table.items (IsLinkedWith c.args.links.now ks) c.loop-a.a c.note_linked.new.table.items) (sym is) c.in_ok-note_linked.ensures.adds) c.in_ok-note_linked.ensures.rising;
    }

pub returns-clause-joined : goal.returns-clause-joined
returns-clause-joined c = subst (λ (t : List (List ℕ)). (a z : ℕ) → Contains (row t z) a ↔ IsLinkedWith c.args.links.now (row c.args.rows.now a) z) (sym c.from_vec.ensures) (is_made (λ a z. IsLinkedWith c.args.links.now (row c.args.rows.now a) z) c.loop-a.table.items c.loop-a.a (λ a z f. let w : a < length c.args.rows.now = row_within c.args.rows.now a f.0 f.1 in omega arith) c.loop-a.invariant.made)

pub returns-clause-ascending : goal.returns-clause-ascending
returns-clause-ascending c = subst (λ (t : List (List ℕ)). (a : ℕ) → IsStrictlyIncreasing (row t a)) (sym c.from_vec.ensures) (λ a. (c.loop-a.invariant.made.rising a).rising)
