use Rattle.dep_board.proofs.Opens.{CountedTo}
use Rattle.dep_board.proofs.opening.count_edges.Given as goal

abbrev pub invariant-loop-step : goal.invariant-loop-step
invariant-loop-step l = CountedTo l.initial.words.items l.words.items l.row l.step-index
