-- The canonical text of tokens: one space between two, but none before `; , ) ] . : (` and none after `( [ . !`. This project's own.
use Rattle.std.specs.Prelude.{ℕ, Bool, true, false, ◌||◌, if◌then◌else◌, List, [], ◌∷◌, ◌++◌, codes}
use Rattle.std.specs.Fmt.{signed_decimal}
use Rattle.item_types.specs.Quoted.{quoted}
use Rattle.item_types.specs.declared.decl.Names.{Names}
use Rattle.lang_lexer.specs.Marks.{written}
use Rattle.lang_lexer.specs.declared.token.Mark.{Mark}
use Rattle.lang_lexer.specs.declared.token.Mark.TheVariants.{Semi, Comma, Dot, Colon, Open, Close, OpenList, CloseList, Bang}
use Rattle.lang_lexer.specs.declared.token.Token.{Token}
use Rattle.lang_lexer.specs.declared.token.Token.TheVariants.{Sign, Number, Str, Name}
use Rattle.syntax_tree.specs.declared.tree.Stmt.{Stmt}
use Rattle.lang_print.specs.Tokens.{body_tokens}

-- how a token is written
abbrev pub word : Token → List ℕ
word (Sign m) = written m
word (Number v) = signed_decimal v
word (Str v) = quoted v
word (Name x) = x

abbrev pub mark_hugs_left : Mark → Bool
mark_hugs_left Semi = true
mark_hugs_left Comma = true
mark_hugs_left Close = true
mark_hugs_left CloseList = true
mark_hugs_left Dot = true
mark_hugs_left Colon = true
mark_hugs_left Open = true
mark_hugs_left _ = false

abbrev pub mark_hugs_right : Mark → Bool
mark_hugs_right Open = true
mark_hugs_right OpenList = true
mark_hugs_right Dot = true
mark_hugs_right Bang = true
mark_hugs_right _ = false

-- no space stands before these
abbrev pub hugs_left : Token → Bool
hugs_left (Sign m) = mark_hugs_left m
hugs_left _ = false

-- no space stands after these
abbrev pub hugs_right : Token → Bool
hugs_right (Sign m) = mark_hugs_right m
hugs_right _ = false

-- what stands between two tokens
abbrev pub between : Token → Token → List ℕ
between t u = if hugs_right t || hugs_left u then [] else codes " "

-- the text behind a token
abbrev pub behind : Token → List Token → List ℕ
behind t [] = []
behind t (u ∷ us) = between t u ++ (word u ++ behind u us)

abbrev pub canonical : List Token → List ℕ
canonical [] = []
canonical (t ∷ ts) = word t ++ behind t ts

-- the canonical text of statements
abbrev pub text_of : Names → List Stmt → List ℕ
text_of names c = canonical (body_tokens names c)
