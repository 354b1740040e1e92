use Rattle.lang_round.proofs.Stmts.{of_body, of_method}
use Rattle.lang_round.proofs.law.tree_tokens.Goals as goal

pub returns-clause-bodies : goal.returns-clause-bodies
returns-clause-bodies c = of_body

pub returns-clause-methods : goal.returns-clause-methods
returns-clause-methods c = of_method
