use Rattle.std.proofs.Common.{◌≡◌, ℕ, ◌<◌, List, length, get_or, arith, subst, sym, ◌∙◌, Contains}
use Rattle.std.proofs.lemmas.List.{get_or_default}
use Rattle.std.proofs.lemmas.List.Elements.{Contains-get_or}
use Rattle.chain_builder.specs.Rows.{row}
use Rattle.chain_builder.proofs.RowLemmas.{row_read}
use Rattle.chain_builder.proofs.NeededLemmas.{visits_more_seen, visits_more_new}
use Rattle.chain_builder.specs.Marks.{AddsAll}
use Rattle.chain_builder.proofs.needed.visit_all.Goals as goal
use Rattle.chain_builder.proofs.needed.visit_all.Goals.{then-not-contains+in_ok-add+in_ok-add_all, else-not-contains}

pub add-requires : goal.add-requires
add-requires c = omega (arith, c.loop-s.invariant.finds.grows.limit, c.requires.steps _ (Contains-get_or c.args.producers.now c.loop-s.s-index 0 (omega arith)))

pub bounds-consumed-s : goal.bounds-consumed-s
bounds-consumed-s c = omega (arith, c.requires.rows, c.requires.steps _ (Contains-get_or c.args.producers.now c.loop-s.s-index 0 (omega arith)))

pub add_all-requires : goal.add_all-requires
add_all-requires c x h =
    let key : ℕ = get_or c.args.producers.now c.loop-s.s-index 0 in
    let is : row c.args.consumed.now key ≡ c.as_slice.result.now = row_read c.args.consumed.now (get_or c.args.producers.now c.loop-s.s-index 0) c.index-consumed-s.result (omega (arith, c.requires.rows, c.requires.steps _ (Contains-get_or c.args.producers.now c.loop-s.s-index 0 (omega arith)))) c.index-consumed-s.is ∙ sym c.as_slice.ensures in
    omega (arith, c.loop-s.invariant.grows.limit, c.requires.items (get_or c.args.producers.now c.loop-s.s-index 0) x (subst (λ (xs : List ℕ). Contains xs x) (sym is) h))

pub loop-s-preserved : goal.loop-s-preserved
loop-s-preserved c =
    let within : c.loop-s.s-index < length c.args.producers.now = omega arith in
    elim c.if-not-contains.branch [
      | then-not-contains+in_ok-add+in_ok-add_all w ↦ rw (w.found-is, w.wanted-is) (visits_more_new c.args.found.now c.args.wanted.now c.loop-s.found c.loop-s.wanted w.add.new.self w.add_all.new.marks c.args.producers.now c.args.consumed.now c.loop-s.s-index (get_or c.args.producers.now c.loop-s.s-index 0) within (get_or_default _ _ _ _ within) w.in_ok-add.ensures.limit w.in_ok-add.ensures.there w.in_ok-add.ensures.items (subst (λ (xs : List ℕ). AddsAll c.loop-s.wanted xs w.add_all.new.marks) (sym (row_read c.args.consumed.now (get_or c.args.producers.now c.loop-s.s-index 0) w.index-consumed-s.result (omega (arith, c.requires.rows, c.requires.steps _ (Contains-get_or c.args.producers.now c.loop-s.s-index 0 (omega arith)))) w.index-consumed-s.is ∙ sym w.as_slice.ensures)) w.in_ok-add_all.ensures) c.loop-s.invariant)
      | else-not-contains w ↦ rw (w.found-is, w.wanted-is) (visits_more_seen c.args.found.now c.args.wanted.now c.loop-s.found c.loop-s.wanted c.args.producers.now c.args.consumed.now c.loop-s.s-index (get_or c.args.producers.now c.loop-s.s-index 0) within (get_or_default _ _ _ _ within) (c.contains.ensures.0 w.if-not-contains.false) c.loop-s.invariant)
    ]
