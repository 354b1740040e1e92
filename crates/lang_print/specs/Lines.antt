-- A text that grows by tokens. This project's own.
use Rattle.std.specs.Prelude.{ℕ, Bool, true, ◌||◌, if◌then◌else◌, List, [], ◌∷◌, ◌++◌, codes, string_bytes}
use Rattle.lang_lexer.specs.declared.token.Token.{Token}
use Rattle.lang_print.specs.Canonical.{word, hugs_left, hugs_right}
use Rattle.lang_print.specs.declared.printer.Printer.TheInside.{Inside}

-- what is written, and whether no space stands behind it
pub record Line : Type 0 where
  pub text : List ℕ
  pub tight : Bool

abbrev pub line_of : Inside → Line
line_of p = record { text = string_bytes p.text; tight = p.tight }

abbrev pub blank : Line
blank = record { text = []; tight = true }

abbrev pub gap : Bool → List ℕ
gap none = if none then [] else codes " "

-- the space before a token, of which the truth value says whether none stands before it
abbrev pub spaced : Bool → Line → Line
spaced hugs l = record { text = l.text ++ gap (l.tight || hugs); tight = l.tight }

-- a word, and whether no space stands behind it
abbrev pub worded : List ℕ → Bool → Line → Line
worded w tight l = record { text = l.text ++ w; tight = tight }

-- one more token
abbrev pub put : Token → Line → Line
put t l = worded (word t) (hugs_right t) (spaced (hugs_left t) l)

-- more tokens, one behind the other
abbrev pub put_all : List Token → Line → Line
put_all [] l = l
put_all (t ∷ ts) l = put_all ts (put t l)
