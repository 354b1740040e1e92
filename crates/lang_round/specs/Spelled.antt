-- Tokens that texts spell. This project's own.
use Rattle.std.specs.Prelude.{ℕ, List}
use Rattle.std.specs.Str.{chars, IsUtf8}
use Rattle.lang_lexer.specs.declared.token.Token.{Token}
use Rattle.lang_lexer.specs.Kinds.{IsToken}

-- some text is this token, in whatever way it is written there
pub record IsSpelled (t : Token) : Type 0 where
  pub text : List ℕ
  pub utf8 : IsUtf8 text
  pub is : IsToken t (chars text)
