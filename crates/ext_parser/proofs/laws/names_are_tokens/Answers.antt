use Rattle.ext_parser.proofs.NameTokens.{name-token, token-name}
use Rattle.ext_parser.proofs.laws.names_are_tokens.Goals as goal

pub returns : goal.returns
returns c = λ text. (name-token text, token-name text)
