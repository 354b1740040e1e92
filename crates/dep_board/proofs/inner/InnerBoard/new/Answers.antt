use Rattle.std.proofs.Common.{rules, sym, subst, ℕ, List, length}
use Rattle.dep_board.specs.Edges.{edges_of}
use Rattle.dep_board.specs.Rule.{all_parts, blank}
use Rattle.dep_board.specs.Passes.{AreOpening}
use Rattle.dep_board.proofs.EdgeLemmas.{none_far}
use Rattle.dep_board.proofs.Keeps.{starts}
use Rattle.dep_board.proofs.Passing.{new_settled, new_sound}
use Rattle.dep_board.proofs.inner.InnerBoard.new.Goals as goal

pub of_words-requires : goal.of_words-requires
of_words-requires c = let rows = c.args.rows in
    let o : AreOpening (length rows) (edges_of rows) c.as_slice-opening.result.now = subst (λ ws. AreOpening (length rows) (edges_of rows) ws) (sym c.as_slice-opening.ensures.value)
    (subst (λ (r : List (List ℕ)). AreOpening (length r) (edges_of r) c.in_ok-words.words.items) c.as_slice.ensures c.in_ok-words.ensures) in
    starts (length rows) (edges_of rows) c.as_slice-opening.result.now o.wide (none_far (length rows) rows 0 c.requires.inside) o.counts o.free

pub invariant_of-result-2 : goal.invariant_of-result-2
invariant_of-result-2 c = let rows = c.args.rows in let v = blank all_parts (length rows) (edges_of rows) in
    record {
      plain = search rules;
      counted = search rules;
      some_part = search rules;
      settled = new_settled all_parts v c.in_ok-table.seat.me.0 (search rules);
      sound = new_sound all_parts v c.in_ok-table.seat.me.0 (search rules) (search rules);
    }
