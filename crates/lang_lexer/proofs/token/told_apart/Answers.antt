use Rattle.lang_lexer.proofs.Marked.{same_is, same_self}
use Rattle.lang_lexer.proofs.token.told_apart.Goals as goal

pub returns-clause-only : goal.returns-clause-only
returns-clause-only c = same_is

pub returns-clause-itself : goal.returns-clause-itself
returns-clause-itself c = same_self
