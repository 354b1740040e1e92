use Rattle.lang_lexer.proofs.Written.{one_token}
use Rattle.lang_lexer.proofs.Lexing.{are_tokens, only_tokens}
use Rattle.lang_lexer.proofs.law.longest_tokens.Goals as goal

pub returns-clause-longest : goal.returns-clause-longest
returns-clause-longest c = are_tokens

pub returns-clause-only : goal.returns-clause-only
returns-clause-only c = only_tokens

pub returns-clause-one : goal.returns-clause-one
returns-clause-one c = one_token
