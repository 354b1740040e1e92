use Rattle.lang_grammar.proofs.Parts.{bodies, expressions}
use Rattle.lang_grammar.proofs.law.read_parts.Goals as goal

pub returns-clause-bodies : goal.returns-clause-bodies
returns-clause-bodies c = bodies

pub returns-clause-expressions : goal.returns-clause-expressions
returns-clause-expressions c = expressions
