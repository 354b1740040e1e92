use Rattle.dep_board.proofs.Opens.{Opened}
use Rattle.dep_board.proofs.opening.opening_words.Given as goal

abbrev pub invariant-loop-row : goal.invariant-loop-row
invariant-loop-row l = Opened l.rows l.words.items l.row-index
