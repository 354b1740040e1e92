-- What each kind of token is, by its characters. This project's own.
use Rattle.std.specs.Prelude.{◌≡◌, ◌≢◌, ℕ, ℤ, pos, ◌+◌, ◌*◌, ◌^◌, ◌<◌, ◌≤◌, Bool, true, false, List, [], ◌∷◌, ◌++◌, length, Option, Some, None, IsTrue}
use Rattle.std.specs.List.{list_all}
use Rattle.std.specs.Char.{encode_utf8}
use Rattle.lang_lexer.specs.declared.token.Mark.{Mark}
use Rattle.lang_lexer.specs.declared.token.Token.{Token}
use Rattle.lang_lexer.specs.declared.token.Token.TheVariants.{Sign, Number, Str, Name}
use Rattle.lang_lexer.specs.Marks.{written}
use Rattle.lang_lexer.specs.Words.{is_digit, is_letter, in_name}
use Rattle.lang_lexer.specs.Numbers.{digit_value}
use Rattle.lang_lexer.specs.Quotes.{hex_value, is_scalar}
use Rattle.lang_lexer.specs.Tokens.{minus, skip}

-- ---- names

abbrev pub begins_word : List ℕ → Bool
begins_word [] = false
begins_word (c ∷ cs) = is_letter c

-- one to 64 letters, digits and low lines, of which the first is a letter
pub record IsWord (w : List ℕ) : Type 0 where
  pub first : IsTrue (begins_word w)
  pub all : IsTrue (list_all in_name w)
  pub short : length w ≤ 64

-- ---- whole numbers

-- the number that goes on with these digits
abbrev pub goes_on : ℕ → List ℕ → ℕ
goes_on n [] = n
goes_on n (c ∷ cs) = goes_on (10 * n + digit_value c) cs

-- one digit or more, of which the first isn't 0
pub data IsCount : ℕ → List ℕ → Type 0 where
  counted : (c : ℕ) (cs : List ℕ) → 48 < c → IsTrue (is_digit c) → IsTrue (list_all is_digit cs) → IsCount (goes_on (digit_value c) cs) (c ∷ cs)

-- a number of 64 bits with sign
pub data IsNumber : ℤ → List ℕ → Type 0 where
  nought : IsNumber (pos 0) (48 ∷ [])
  unsigned : (n : ℕ) (w : List ℕ) → IsCount n w → n < 2 ^ 63 → IsNumber (pos n) w
  signed : (n : ℕ) (w : List ℕ) → IsCount n w → n ≤ 2 ^ 63 → IsNumber (minus n) (45 ∷ w)

-- ---- quoted texts

-- the value of hexadecimal digits behind a value
abbrev pub hex_by : Option ℕ → (ℕ → Option ℕ) → Option ℕ
hex_by None next = None
hex_by (Some d) next = next d

abbrev pub hex_from : ℕ → List ℕ → Option ℕ
hex_from v [] = Some v
hex_from v (c ∷ cs) = hex_by (hex_value c) (λ d. hex_from (16 * v + d) cs)

-- a character behind a backslash, and what both stand for
pub data IsEscape : ℕ → ℕ → Type 0 where
  quote : IsEscape 34 34
  backslash : IsEscape 92 92
  line : IsEscape 110 10
  tab : IsEscape 116 9

-- the text that these characters between two quotes stand for
pub data Means : List ℕ → List ℕ → Type 0 where
  no_text : Means [] []
  itself : (c : ℕ) (t w : List ℕ) → 32 ≤ c → c ≢ 34 → c ≢ 92 → Means t w → Means (encode_utf8 c ++ t) (c ∷ w)
  escape : (c d : ℕ) (t w : List ℕ) → IsEscape c d → Means t w → Means (encode_utf8 d ++ t) (92 ∷ c ∷ w)
  scalar : (v : ℕ) (hs t w : List ℕ) → 0 < length hs → length hs ≤ 6 → hex_from 0 hs ≡ Some v → IsTrue (is_scalar v) → Means t w → Means (encode_utf8 v ++ t) (92 ∷ 117 ∷ 123 ∷ (hs ++ 125 ∷ w))

-- ---- tokens

-- this token is written so
pub data IsToken : Token → List ℕ → Type 0 where
  mark : (m : Mark) → IsToken (Sign m) (written m)
  number : (v : ℤ) (w : List ℕ) → IsNumber v w → IsToken (Number v) w
  text : (t w : List ℕ) → Means t w → IsToken (Str t) (34 ∷ (w ++ 34 ∷ []))
  name : (w : List ℕ) → IsWord w → ((m : Mark) → w ≢ written m) → IsToken (Name w) w

-- this token, written so, is the longest beginning of these characters that is a token; and what is behind it
pub record IsLongest (t : Token) (cs rest : List ℕ) : Type 0 where
  pub word : List ℕ
  pub is : IsToken t word
  pub begins : cs ≡ word ++ rest
  pub longest : (u : Token) (w v : List ℕ) → IsToken u w → cs ≡ w ++ v → length w ≤ length word

-- the tokens of these characters, one behind the other; the truth value says that they end behind them
pub data AreTokens : List ℕ → List Token → Bool → Type 0 where
  over : (cs : List ℕ) → skip cs ≡ [] → AreTokens cs [] true
  stuck : (cs : List ℕ) → 0 < length (skip cs) → ((u : Token) (w v : List ℕ) → IsToken u w → skip cs ≡ w ++ v → ⊥) → AreTokens cs [] false
  more : (cs rest : List ℕ) (t : Token) (ts : List Token) (whole : Bool) → IsLongest t (skip cs) rest → AreTokens rest ts whole → AreTokens cs (t ∷ ts) whole
