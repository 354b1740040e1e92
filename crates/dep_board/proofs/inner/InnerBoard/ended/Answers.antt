use Rattle.std.proofs.Common.{rules, ap, sym, ◌≡◌, ◌↔◌, ◌∙◌, subst, ℕ, ◌+◌, ◌<◌, [], ◌∷◌, ◌++◌, length, arith}
use Rattle.std.specs.List.Sorted.{IsStrictlyIncreasing}
use Rattle.dep_board.specs.Steps.{IsSound}
use Rattle.dep_board.specs.Passes.{IsSettled, IsReleased}
use Rattle.dep_board.specs.Counts.{times, last_of, IsPart}
use Rattle.dep_board.specs.Edges.{producers, dependents, edges_of}
use Rattle.dep_board.specs.Rule.{all_parts, down_in}
use Rattle.dep_board.proofs.EdgeLemmas.{row_leads, row_times}
use Rattle.dep_board.proofs.Keeps.{claims, looks}
use Rattle.dep_board.proofs.Listed.{last-snoc, times-snoc_same, part_rises}
use Rattle.dep_board.proofs.Passing.{late_sound, late_settled, more_settled, told_exactly}
use Rattle.dep_board.proofs.inner.InnerBoard.ended.Goals as goal

pub swap-requires : goal.swap-requires
swap-requires c = let board = c.args.self.now in let pass = c.args.pass.now in let key = board.table.shared.key in (
  search rules,
  omega (arith, board.sized, c.requires.range, c.len.ensures),
  claims (length key) (edges_of key) _ _ pass.seat.me c.args.step _ (omega (arith, ap length board.planned, c.len.ensures)) (omega (arith, ap length board.planned, c.requires.range))
      (c.requires.fits.1 ∙ sym (ap length board.planned)) (omega (arith, pass.some_part, pass.counted)),
)

pub invariant_of-pass : goal.invariant_of-pass
invariant_of-pass c =
    let is = ((c.swap.ensures.2 c.args.step (ap (λ (n : ℕ). 1 + n + c.args.step) (c.len.ensures ∙ sym c.requires.fits.1))).1 c.if-swap-ne0.true).1 in
    let pass = c.args.pass.now in let v = pass.seat.me.0 in
    record {
      plain = ap (λ m. m.1) is ∙ pass.plain;
      counted = pass.counted ∙ sym (ap (λ m. m.0.parts) is);
      some_part = pass.some_part;
      settled = late_settled v _ c.args.step (ap (λ m. m.0) is) pass.settled;
      sound = late_sound v _ c.args.step (ap (λ m. m.0) is) pass.sound;
    }

pub returns-then-swap-ne0-clause-same : goal.returns-then-swap-ne0-clause-same
returns-then-swap-ne0-clause-same c =
    let is = ((c.swap.ensures.2 c.args.step (ap (λ (n : ℕ). 1 + n + c.args.step) (c.len.ensures ∙ sym c.requires.fits.1))).1 c.if-swap-ne0.true).1 in
    (c.swap.ensures.0, ap (λ m. m.0.steps) is, ap (λ m. m.0.edges) is)

pub returns-then-swap-ne0-clause-late : goal.returns-then-swap-ne0-clause-late
returns-then-swap-ne0-clause-late c =
    let is = ((c.swap.ensures.2 c.args.step (ap (λ (n : ℕ). 1 + n + c.args.step) (c.len.ensures ∙ sym c.requires.fits.1))).1 c.if-swap-ne0.true).1 in
    (ap (λ m. m.0.late) is, ap (λ m. m.0.ended) is, ap (λ m. m.0.told) is)

pub count_down-requires-clause-part : goal.count_down-requires-clause-part
count_down-requires-clause-part c =
    let won = (c.swap.ensures.2 c.args.step (ap (λ (n : ℕ). 1 + n + c.args.step) (c.len.ensures ∙ sym c.requires.fits.1))).0 c.if-swap-ne0.false in let is = won.1 in
    omega (arith, ap (λ m. m.0.parts) is, c.args.pass.now.some_part, c.args.pass.now.counted)

pub count_down-requires-clause-last : goal.count_down-requires-clause-last
count_down-requires-clause-last c =
    let won = (c.swap.ensures.2 c.args.step (ap (λ (n : ℕ). 1 + n + c.args.step) (c.len.ensures ∙ sym c.requires.fits.1))).0 c.if-swap-ne0.false in let is = won.1 in
    let more = ap (λ m. m.0.ended) is in let was = c.args.pass.now.seat.me.0.ended in
    (ap last_of more ∙ last-snoc was c.args.step, omega (arith, ap (times c.args.step) more, times-snoc_same c.args.step was))

pub count_down-requires-clause-fresh : goal.count_down-requires-clause-fresh
count_down-requires-clause-fresh c =
    let won = (c.swap.ensures.2 c.args.step (ap (λ (n : ℕ). 1 + n + c.args.step) (c.len.ensures ∙ sym c.requires.fits.1))).0 c.if-swap-ne0.false in let is = won.1 in
    λ t. ap (λ m. down_in c.args.step t m.0) is ∙ (c.args.pass.now.settled c.args.step t).1 won.0

pub load-requires : goal.load-requires
load-requires c =
    let won = (c.swap.ensures.2 c.args.step (ap (λ (n : ℕ). 1 + n + c.args.step) (c.len.ensures ∙ sym c.requires.fits.1))).0 c.if-swap-ne0.false in let is = won.1 in
    let board = c.args.self.now in (
      c.count_down.ensures.seat.0 ∙ (c.swap.ensures.0 ∙ c.requires.fits.0),
      search rules,
      looks _ _ _ _ _ _
          (c.count_down.ensures.same.0 ∙ (ap (λ m. m.0.steps) is ∙ (c.requires.fits.1 ∙ sym (ap length board.planned))))
          (c.count_down.ensures.same.1 ∙ (ap (λ m. m.0.edges) is ∙ (c.requires.fits.2 ∙ sym (ap edges_of board.planned)))),
    )

pub invariant_of-pass-2 : goal.invariant_of-pass-2
invariant_of-pass-2 c =
    let won = (c.swap.ensures.2 c.args.step (ap (λ (n : ℕ). 1 + n + c.args.step) (c.len.ensures ∙ sym c.requires.fits.1))).0 c.if-swap-ne0.false in let is = won.1 in
    let rows = c.args.self.now.rows in let pass = c.args.pass.now in let v = pass.seat.me.0 in let step = c.args.step in let counted = c.count_down.new.seat.me.0 in
    let on = more_settled v counted step pass.settled (c.count_down.ensures.same.2 ∙ ap (λ m. m.0.ended) is) (c.count_down.ensures.same.1 ∙ ap (λ m. m.0.edges) is) won.0
    (λ t. c.count_down.ensures.downs.0 t ∙ (sym (row_times rows step t c.row_of-row.result.now c.requires.range c.row_of-row.ensures)
    ∙ ap (λ es. times step (producers t es)) (sym (c.count_down.ensures.same.1 ∙ (ap (λ m. m.0.edges) is ∙ c.requires.fits.2)))))
    (λ q t n. c.count_down.ensures.downs.1 q t n ∙ ap (λ m. down_in q t m.0) is) in
    let look = ap (λ m. m.0) c.load.ensures.2.0 in
    record {
      plain = ap (λ m. m.1) c.load.ensures.2.0 ∙ (c.count_down.ensures.seat.1 ∙ (ap (λ m. m.1) is ∙ pass.plain));
      counted = omega (arith, ap (λ v. v.parts) look, c.count_down.ensures.parts, ap (λ m. m.0.parts) is, pass.counted);
      some_part = pass.some_part;
      settled = subst IsSettled (sym look) on;
      sound = subst IsSound (sym look) c.load.ensures.2.1;
    }

pub returns-clause-same : goal.returns-clause-same
returns-clause-same c =
    let won = (c.swap.ensures.2 c.args.step (ap (λ (n : ℕ). 1 + n + c.args.step) (c.len.ensures ∙ sym c.requires.fits.1))).0 c.if-swap-ne0.false in let is = won.1 in
    let look = c.load.ensures.2.0 in (
      c.load.ensures.0 ∙ (c.count_down.ensures.seat.0 ∙ c.swap.ensures.0),
      ap (λ m. m.0.steps) look ∙ (c.count_down.ensures.same.0 ∙ ap (λ m. m.0.steps) is),
      ap (λ m. m.0.edges) look ∙ (c.count_down.ensures.same.1 ∙ ap (λ m. m.0.edges) is),
    )

pub returns-clause-told : goal.returns-clause-told
returns-clause-told c =
    let won = (c.swap.ensures.2 c.args.step (ap (λ (n : ℕ). 1 + n + c.args.step) (c.len.ensures ∙ sym c.requires.fits.1))).0 c.if-swap-ne0.false in let is = won.1 in
    let was = c.args.pass.now.seat.me.0.told in
    ap (λ m. m.0.told) c.load.ensures.2.0 ∙ (c.count_down.ensures.told ∙ (ap (λ l. l ++ c.count_down.new.told.items) (ap (λ m. m.0.told) is) ∙ ap (λ l. was ++ l) (sym c.from_vec.ensures)))

pub returns-clause-part : goal.returns-clause-part
returns-clause-part c =
    let rows = c.args.self.now.rows in let leads = row_leads rows c.args.step c.row_of-row.result.now c.requires.range c.row_of-row.ensures in
    subst (λ l. IsPart l (dependents c.args.step (edges_of rows))) (sym c.from_vec.ensures) (subst (λ d. IsPart c.count_down.new.told.items d) (sym leads) c.count_down.ensures.part)

pub returns-clause-ascending : goal.returns-clause-ascending
returns-clause-ascending c =
    let board = c.args.self.now in let row = c.row_of-row.result.now in
    let rises = subst IsStrictlyIncreasing (sym c.row_of-row.ensures) (board.ordered.ascending c.args.step row c.requires.range) in
    subst IsStrictlyIncreasing (sym c.from_vec.ensures) (part_rises c.count_down.new.told.items row c.count_down.ensures.part rises)

pub returns-clause-fresh : goal.returns-clause-fresh
returns-clause-fresh c =
    let won = (c.swap.ensures.2 c.args.step (ap (λ (n : ℕ). 1 + n + c.args.step) (c.len.ensures ∙ sym c.requires.fits.1))).0 c.if-swap-ne0.false in let is = won.1 in
    (won.0, ap (λ m. m.0.late) c.load.ensures.2.0 ∙ (c.count_down.ensures.same.3 ∙ ap (λ m. m.0.late) is))

pub returns-clause-exact : goal.returns-clause-exact
returns-clause-exact c =
    let won = (c.swap.ensures.2 c.args.step (ap (λ (n : ℕ). 1 + n + c.args.step) (c.len.ensures ∙ sym c.requires.fits.1))).0 c.if-swap-ne0.false in let is = won.1 in
    let rows = c.args.self.now.rows in let pass = c.args.pass.now in let v = pass.seat.me.0 in let step = c.args.step in let counted = c.count_down.new.seat.me.0 in
    let on = more_settled v counted step pass.settled (c.count_down.ensures.same.2 ∙ ap (λ m. m.0.ended) is) (c.count_down.ensures.same.1 ∙ ap (λ m. m.0.edges) is) won.0
    (λ t. c.count_down.ensures.downs.0 t ∙ (sym (row_times rows step t c.row_of-row.result.now c.requires.range c.row_of-row.ensures)
    ∙ ap (λ es. times step (producers t es)) (sym (c.count_down.ensures.same.1 ∙ (ap (λ m. m.0.edges) is ∙ c.requires.fits.2)))))
    (λ q t n. c.count_down.ensures.downs.1 q t n ∙ ap (λ m. down_in q t m.0) is) in
    let same = c.count_down.ensures.same.1 ∙ ap (λ m. m.0.edges) is in let news = c.count_down.new.told.items in
    let dependents_are = sym (row_leads rows step c.row_of-row.result.now c.requires.range c.row_of-row.ensures) ∙ ap (dependents step) (sym c.requires.fits.2) in
    subst (λ l. pass.parts ≡ all_parts → (s : ℕ) → (0 < times s l) ↔ IsReleased step s (edges_of rows) (v.ended ++ step ∷ [])) (sym c.from_vec.ensures)
    (λ whole. subst (λ es. (s : ℕ) → (0 < times s news) ↔ IsReleased step s es (v.ended ++ step ∷ [])) c.requires.fits.2
    (told_exactly step v counted news pass.settled pass.sound on c.load.ensures.2.1 (sym pass.counted ∙ whole) (c.count_down.ensures.parts ∙ (ap (λ m. m.0.parts) is ∙ (sym pass.counted ∙ whole))) same
    (c.count_down.ensures.same.2 ∙ ap (λ m. m.0.ended) is) (c.count_down.ensures.told ∙ ap (λ l. l ++ news) (ap (λ m. m.0.told) is)) won.0 (subst (λ d. IsPart news d) dependents_are c.count_down.ensures.part)))
