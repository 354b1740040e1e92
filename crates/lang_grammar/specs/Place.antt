-- A place among the tokens, and the answers of what reads from a place. This project's own.
use Rattle.std.specs.Prelude.{◌≡◌, ℕ, ◌+◌, Bool, false, ◌&&◌, ◌||◌, if◌then◌else◌, ◌==◌, List, [], ◌∷◌, Option, Some, None, Result, Ok, Err}
use Rattle.lang_lexer.specs.declared.token.Mark.{Mark}
use Rattle.lang_lexer.specs.declared.token.Mark.TheVariants.{Bang, Len, Open, OpenList, OpenBlock}
use Rattle.lang_lexer.specs.declared.token.Token.{Token}
use Rattle.lang_lexer.specs.declared.token.Token.TheVariants.{Sign}
use Rattle.lang_lexer.specs.Marks.{same}
use Rattle.lang_grammar.specs.declared.fault.Fault.{Fault}
use Rattle.lang_grammar.specs.declared.fault.Fault.TheVariants.{Syntax, TooDeep}
use Rattle.lang_grammar.specs.declared.fault.ParseError.{ParseError}
use Rattle.lang_grammar.specs.declared.fault.ParseError.TheVariants as errors

-- the tokens that are left, and the number of the first
pub record Place : Type 0 where
  pub rest : List Token
  pub at : ℕ

abbrev pub place : ℕ → List Token → Place
place k ts = record { rest = ts; at = k }

-- whether a token is this keyword or sign
abbrev pub is : Mark → Token → Bool
is m (Sign x) = same x m
is m _ = false

-- whether the tokens begin with one of a kind
abbrev pub begins : (Token → Bool) → List Token → Bool
begins kind [] = false
begins kind (t ∷ ts) = kind t

abbrev pub first_of : List Token → Option Token
first_of [] = None
first_of (t ∷ ts) = Some t

abbrev pub first : Place → Option Token
first p = first_of p.rest

abbrev pub next_by : Place → List Token → Place
next_by p [] = p
next_by p (t ∷ ts) = record { rest = ts; at = p.at + 1 }

-- the place behind the next token
abbrev pub next : Place → Place
next p = next_by p p.rest

abbrev pub sees : Mark → Place → Bool
sees m p = begins (is m) p.rest

-- whether the next token is one that opens a form
abbrev pub opens : Place → Bool
opens p = sees Open p || sees OpenList p || sees OpenBlock p || sees Bang p || sees Len p

-- why the next token may not stand here, where so many more forms may be open
unfoldable pub refusal : ℕ → Place → Fault
refusal left p = if left == 0 && opens p then TooDeep p.at else Syntax p.at

-- ---- what reads from a place

abbrev pub Outcome : Type 0 → Type 0
Outcome A = Result (A × Place) Fault

abbrev pub Parser : Type 0 → Type 0
Parser A = Place → Outcome A

abbrev pub and_then : {A B : Type 0} → Outcome A → (A → Parser B) → Outcome B
and_then (Ok p) f = f p.0 p.1
and_then (Err e) f = Err e

infixl 10 ◌>>=◌
abbrev pub ◌>>=◌ : {A B : Type 0} → Parser A → (A → Parser B) → Parser B
p >>= f = λ i. and_then (p i) f

abbrev pub pure : {A : Type 0} → A → Parser A
pure a = λ i. Ok (a, i)

abbrev pub refuse : {A : Type 0} → ℕ → Parser A
refuse left = λ p. Err (refusal left p)

-- ---- what a function that reads ensures: the outcome, unless memory runs out

abbrev pub Fails : {A : Type 0} → Outcome A → ParseError → Type 0
Fails outcome errors.Memory = Unit {0}
Fails outcome (errors.Fault f) = outcome ≡ Err f

abbrev pub Gives : {A : Type 0} → Outcome A → Result A ParseError → Place → Type 0
Gives outcome (Ok a) new = outcome ≡ Ok (a, new)
Gives outcome (Err e) new = Fails outcome e

-- the same for a whole text
abbrev pub Refuses : {A : Type 0} → Result A Fault → ParseError → Type 0
Refuses outcome errors.Memory = Unit {0}
Refuses outcome (errors.Fault f) = outcome ≡ Err f

abbrev pub Finds : {A : Type 0} → Result A Fault → Result A ParseError → Type 0
Finds outcome (Ok a) = outcome ≡ Ok a
Finds outcome (Err e) = Refuses outcome e
