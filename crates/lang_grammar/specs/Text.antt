-- A text and its tree, or its first fault. This project's own.
use Rattle.std.specs.Prelude.{◌≡◌, ℕ, Bool, true, false, not, ◌&&◌, if◌then◌else◌, ◌==◌, List, length, Result, Ok, Err}
use Rattle.std.specs.Str.{chars}
use Rattle.lang_lexer.specs.declared.token.Token.{Token}
use Rattle.lang_lexer.specs.Tokens.{tokens}
use Rattle.syntax_tree.specs.declared.tree.Stmt.{Stmt}
use Rattle.item_types.specs.declared.decl.Names.{Names}
use Rattle.lang_grammar.specs.declared.fault.Fault.{Fault}
use Rattle.lang_grammar.specs.declared.fault.Fault.TheVariants as f
use Rattle.lang_grammar.specs.declared.fault.LangFault.{LangFault}
use Rattle.lang_grammar.specs.declared.fault.LangFault.TheVariants.{Token as NoToken, TooDeep, Syntax, Unknown, Undeclared, Memory}
use Rattle.lang_grammar.specs.Rules as rules
use Rattle.lang_grammar.specs.Rules.{limit}
use Rattle.lang_grammar.specs.Sentence.{IsBody, StuckBody}

-- the truth value says whether the text is a step's body; else it is a method's
module _ (step : Bool) (names : Names) where
  -- these statements are the whole text
  pub record IsText (c : List Stmt) (text : List ℕ) : Type 0 where
    pub xs : List Token
    pub all : tokens (chars text) ≡ (xs, true)
    pub body : IsBody step names limit c xs

  -- a token that isn't there is called so; whole says that the text ends behind its tokens
  abbrev pub named : Fault → ℕ → Bool → LangFault
  named (f.TooDeep at) count whole = TooDeep at
  named (f.Syntax at) count whole = if at == count && not whole then NoToken at else Syntax at

  -- where the text is stuck, and why
  pub data TextStuck (text : List ℕ) : LangFault → Type 0 where
    inside : (xs : List Token) (whole : Bool) (g : Fault) → tokens (chars text) ≡ (xs, whole) → StuckBody step names limit xs g → TextStuck text (named g (length xs) whole)
    behind : (xs : List Token) (c : List Stmt) → tokens (chars text) ≡ (xs, false) → IsBody step names limit c xs → TextStuck text (NoToken (length xs))

  abbrev pub ended : List Stmt → ℕ → Bool → Result (List Stmt) LangFault
  ended c count whole = if whole then Ok c else Err (NoToken count)

  -- the answer for tokens, of which the truth value says whether the text ends behind them
  abbrev pub of_body : ℕ → Bool → Result (List Stmt) Fault → Result (List Stmt) LangFault
  of_body count whole (Ok c) = ended c count whole
  of_body count whole (Err g) = Err (named g count whole)

  abbrev pub whole_of : List Token → Result (List Stmt) Fault
  whole_of xs = rules.whole step names limit xs

  abbrev pub of_tokens : List Token × Bool → Result (List Stmt) LangFault
  of_tokens x = of_body (length x.0) x.1 (whole_of x.0)

  abbrev pub of_text : List ℕ → Result (List Stmt) LangFault
  of_text text = of_tokens (tokens (chars text))

-- this answer, unless memory runs out
abbrev pub Told : {A : Type 0} → Result A LangFault → Result A LangFault → Type 0
Told o (Ok c) = o ≡ Ok c
Told o (Err Memory) = Unit {0}
Told o (Err (NoToken at)) = o ≡ Err (NoToken at)
Told o (Err (TooDeep at)) = o ≡ Err (TooDeep at)
Told o (Err (Syntax at)) = o ≡ Err (Syntax at)
Told o (Err (Unknown at)) = o ≡ Err (Unknown at)
Told o (Err (Undeclared at)) = o ≡ Err (Undeclared at)
