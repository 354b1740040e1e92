-- The tokens of a text, given by its characters. This project's own.
use Rattle.std.specs.Prelude.{ℕ, ℤ, pos, negsuc, zero, suc, ◌+◌, ◌^◌, Bool, true, false, ◌&&◌, ◌||◌, if◌then◌else◌, ◌==◌, nat_le, List, [], ◌∷◌, ◌++◌, length, take, drop, Option, Some, None}
use Rattle.lang_lexer.specs.declared.token.Mark.{Mark}
use Rattle.lang_lexer.specs.declared.token.Mark.TheVariants.{Semi, Comma, Dot, Colon, Open, Close, OpenList, CloseList, OpenBlock, CloseBlock, Assign, Equal, Less, Plus, Bang, And}
use Rattle.lang_lexer.specs.declared.token.Token.{Token}
use Rattle.lang_lexer.specs.declared.token.Token.TheVariants.{Sign, Number, Str}
use Rattle.lang_lexer.specs.declared.quoted.Quoting.TheVariants.{Plain}
use Rattle.lang_lexer.specs.Words.{is_digit, is_letter, name_len, word}
use Rattle.lang_lexer.specs.Numbers.{digits, digit_value}
use Rattle.lang_lexer.specs.Quotes.{quoted}

-- the sign of one character
abbrev pub sign : ℕ → Option Mark
sign c =
    if c == 59 then Some Semi else (
    if c == 44 then Some Comma else (
    if c == 46 then Some Dot else (
    if c == 58 then Some Colon else (
    if c == 40 then Some Open else (
    if c == 41 then Some Close else (
    if c == 91 then Some OpenList else (
    if c == 93 then Some CloseList else (
    if c == 123 then Some OpenBlock else (
    if c == 125 then Some CloseBlock else (
    if c == 61 then Some Assign else (
    if c == 60 then Some Less else (
    if c == 43 then Some Plus else (
    if c == 33 then Some Bang else None)))))))))))))

abbrev pub sign_token : Option Mark → List ℕ → Option (Token × List ℕ)
sign_token None cs = None
sign_token (Some m) cs = Some (Sign m, cs)

-- a sign of two characters comes before one of one character
abbrev pub signed_by : ℕ → List ℕ → Option (Token × List ℕ)
signed_by c [] = sign_token (sign c) []
signed_by c (d ∷ cs) = if c == 61 && d == 61 then Some (Sign Equal, cs) else (if c == 38 && d == 38 then Some (Sign And, cs) else sign_token (sign c) (d ∷ cs))

abbrev pub minus : ℕ → ℤ
minus zero = pos 0
minus (suc n) = negsuc n

-- a number behind a minus: its first digit isn't 0
abbrev pub negative : List ℕ → Option (Token × List ℕ)
negative [] = None
negative (c ∷ cs) = if nat_le 49 c && nat_le c 57 then (let d = digits (digit_value c) (2 ^ 63 + 1) cs in Some (Number (minus d.0), d.1)) else None

-- a number that begins with this digit: no other digit follows a 0
abbrev pub positive : ℕ → List ℕ → Token × List ℕ
positive c cs = if c == 48 then (Number (pos 0), cs) else (let d = digits (digit_value c) (2 ^ 63) cs in (Number (pos d.0), d.1))

abbrev pub quoted_token : Option (List ℕ × List ℕ) → Option (Token × List ℕ)
quoted_token None = None
quoted_token (Some x) = Some (Str x.0, x.1)

-- the keyword or name at the front, and what follows it
abbrev pub word_from : List ℕ → Token × List ℕ
word_from cs = (word (take (name_len cs) cs), drop (name_len cs) cs)

-- the token at the front, and what follows it
abbrev pub token : List ℕ → Option (Token × List ℕ)
token [] = None
token (c ∷ cs) =
    if c == 34 then quoted_token (quoted Plain [] cs) else (
    if c == 45 then negative cs else (
    if is_digit c then Some (positive c cs) else (
    if is_letter c then Some (word_from (c ∷ cs)) else
    signed_by c cs)))

abbrev pub is_blank : ℕ → Bool
is_blank c = c == 32 || c == 9 || c == 10 || c == 13

-- behind the blanks
abbrev pub skip : List ℕ → List ℕ
skip [] = []
skip (c ∷ cs) = if is_blank c then skip cs else c ∷ cs

-- goes on behind a token, or ends: at the end of the text, or where no token is
abbrev pub go_on : (List Token → List ℕ → List Token × Bool) → List Token → List ℕ → Option (Token × List ℕ) → List Token × Bool
go_on next found [] t = (found, true)
go_on next found (c ∷ cs) None = (found, false)
go_on next found (c ∷ cs) (Some x) = next (found ++ x.0 ∷ []) x.1

unfoldable pub tokens_from : ℕ → List Token → List ℕ → List Token × Bool
tokens_from zero found cs = (found, false)
tokens_from (suc turns) found cs = go_on (tokens_from turns) found (skip cs) (token (skip cs))

-- the tokens, and whether the text ends behind them; each takes a character, so the turns are enough
unfoldable pub tokens : List ℕ → List Token × Bool
tokens cs = tokens_from (length cs + 1) [] cs
