use Rattle.std.proofs.Common.{rules, refl, ap, sym, ◌∙◌, ℕ, ◌+◌, ◌<◌, ◌∷◌, [], length, get_or, arith, inl, inr}
use Rattle.std.proofs.lemmas.List.{append-nil, get_or_default}
use Rattle.dep_board.specs.Edges.{edges_of}
use Rattle.dep_board.proofs.Keeps.{counts_down}
use Rattle.dep_board.proofs.Downs.{at_down, at_end, may_count}
use Rattle.dep_board.proofs.EdgeLemmas.{row_inside}
use Rattle.dep_board.proofs.inner.InnerBoard.count_down.Goals as goal
use Rattle.dep_board.proofs.inner.InnerBoard.count_down.Goals.{then-found-eq1, else-found-eq1}

pub fetch_sub-found-requires : goal.fetch_sub-found-requires
fetch_sub-found-requires c =
    let board = c.args.self.now in let key = board.table.shared.key in let row = c.args.row.now in let i = c.loop-dependent.dependent-index in let a = c.loop-dependent.invariant.2 in
    let near = c.loop-dependent-test.true in let s : ℕ = get_or row i 0 in
    let inside : s < length board.rows = row_inside board.rows board.ordered c.args.step row c.requires.row.0 c.requires.row.1 i 0 near in
    let may = may_count c.args.step key board.rows row c.args.seat.now.me.0 c.loop-dependent.seat.me.0 c.loop-dependent.told.items i s board.planned c.requires.row.0 c.requires.row.1 a near (get_or_default row i 0 s near)
    c.requires.last.0 c.requires.last.1 in
    (search rules, omega (arith, inside, board.sized), counts_down (length key) (edges_of key) _ _ c.loop-dependent.seat.me s (1 + s) refl (omega (arith, inside, ap length board.planned)) (omega (arith, a.same_parts, c.requires.part)) may.0 may.1)

pub loop-dependent-preserved : goal.loop-dependent-preserved
loop-dependent-preserved c =
    let step = c.args.step in let row = c.args.row.now in let i = c.loop-dependent.dependent-index in let v₀ = c.args.seat.now.me.0 in let a = c.loop-dependent.invariant.2 in
    let near = c.loop-dependent-test.true in let s : ℕ = get_or row i 0 in let is = c.fetch_sub-found.ensures.2 s refl in
    elim c.if-found-eq1.branch [
      | then-found-eq1 w ↦
          let me = is.0 w.if-found-eq1.true in (
            c.fetch_sub-found.ensures.0 ∙ c.loop-dependent.invariant.0,
            ap (λ m. m.1) me ∙ c.loop-dependent.invariant.1,
            at_down step row v₀ c.loop-dependent.seat.me.0 c.loop-dependent.told.items i s a near (get_or_default row i 0 s near) c.requires.last.0
                (s ∷ []) (inl refl) c.fetch_sub-found.new.seat.me.0 (ap (λ m. m.0) me) c.if-found-eq1.told.items (ap (λ x. x.items) w.told-is ∙ w.push_reserved.ensures.items),
            search rules,
            search rules,
          )
      | else-found-eq1 w ↦
          let me = is.1 w.if-found-eq1.false in (
            c.fetch_sub-found.ensures.0 ∙ c.loop-dependent.invariant.0,
            ap (λ m. m.1) me ∙ c.loop-dependent.invariant.1,
            at_down step row v₀ c.loop-dependent.seat.me.0 c.loop-dependent.told.items i s a near (get_or_default row i 0 s near) c.requires.last.0
                [] (inr refl) c.fetch_sub-found.new.seat.me.0 (ap (λ m. m.0) me) c.if-found-eq1.told.items (ap (λ x. x.items) w.told-is ∙ sym (append-nil c.loop-dependent.told.items)),
            search rules,
            search rules,
          )
    ]

pub returns-clause-part : goal.returns-clause-part
returns-clause-part c = (at_end _ _ _ _ _ _ c.loop-dependent.invariant.2 (search rules)).1
