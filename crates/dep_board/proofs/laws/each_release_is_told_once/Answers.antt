use Rattle.dep_board.proofs.RuleLaws.{told_once, after_all_edges, none_is_missed}
use Rattle.dep_board.proofs.laws.each_release_is_told_once.Goals as goal

pub returns-clause-told_once : goal.returns-clause-told_once
returns-clause-told_once c = told_once

pub returns-clause-after_all_edges : goal.returns-clause-after_all_edges
returns-clause-after_all_edges c = after_all_edges

pub returns-clause-none_is_missed : goal.returns-clause-none_is_missed
returns-clause-none_is_missed c = none_is_missed
