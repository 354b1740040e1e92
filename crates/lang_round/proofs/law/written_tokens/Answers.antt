use Rattle.std.specs.Str.{chars}
use Rattle.std.proofs.lemmas.Str.{scalars-chars}
use Rattle.lang_lexer.specs.Tokens.{tokens}
use Rattle.lang_round.proofs.Lines.{again, utf8, spelled}
use Rattle.lang_round.proofs.law.written_tokens.Goals as goal

pub returns-clause-again : goal.returns-clause-again
returns-clause-again c = again

pub returns-clause-utf8 : goal.returns-clause-utf8
returns-clause-utf8 c = utf8

pub returns-clause-spelled : goal.returns-clause-spelled
returns-clause-spelled c = λ text u. spelled (chars text) (tokens (chars text)).0 (tokens (chars text)).1 (c.longest_tokens.ensures.longest (chars text)) (scalars-chars text u)
