use Rattle.std.proofs.Common.{arith, ap, sym, subst, ◌∙◌, ℕ, List, get_or}
use Rattle.std.specs.List.Sorted.{IsStrictlyIncreasing}
use Rattle.dep_board.proofs.Opens.{opened_small, opened_next}
use Rattle.dep_board.proofs.Listed.{rising_once}
use Rattle.dep_board.proofs.opening.opening_words.Goals as goal

pub count_edges-requires-clause-few : goal.count_edges-requires-clause-few
count_edges-requires-clause-few c =
    let i = c.loop-row.row-index in let row = c.as_slice.result.now in
    let rises = subst IsStrictlyIncreasing (sym (c.as_slice.ensures ∙ c.row-item.is)) (c.requires.ascending i c.row-item.result c.loop-row-test.true) in
    λ s inside. omega (arith, opened_small c.args.rows.now c.requires c.loop-row.words.items i c.loop-row.invariant s inside, rising_once row rises s)

pub loop-row-preserved : goal.loop-row-preserved
loop-row-preserved c =
    let rows = c.args.rows.now in let i = c.loop-row.row-index in let row = c.as_slice.result.now in
    let is = c.as_slice.ensures ∙ (c.row-item.is ∙ ap (λ (d : List ℕ). get_or rows i d) (sym c.as_slice.ensures)) in
    opened_next rows c.requires c.loop-row.words.items c.count_edges.new.words.items i row c.loop-row.invariant c.loop-row-test.true is c.count_edges.ensures.wide c.count_edges.ensures.counts
