use Rattle.lang_grammar.specs.Rules.{limit}
use Rattle.step_lang.proofs.RightStmts.{right_body, right_method}
use Rattle.step_lang.proofs.law.read_is_right.Goals as goal

pub returns-clause-bodies : goal.returns-clause-bodies
returns-clause-bodies c = λ names decl b text h. right_body names decl limit b.stmts h.sentence.xs h.sentence.body h.named

pub returns-clause-methods : goal.returns-clause-methods
returns-clause-methods c = λ names recorder m x text h. right_method names recorder m limit x.stmts h.sentence.xs h.sentence.body h.named
