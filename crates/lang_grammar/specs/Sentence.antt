-- The sentences of the language, and where a text is stuck. This project's own.
use Rattle.std.specs.Prelude.{◌≡◌, ℕ, ◌+◌, ◌<◌, Bool, List, ◌++◌, length, ◌⊎◌}
use Rattle.lang_lexer.specs.declared.token.Token.{Token}
use Rattle.syntax_tree.specs.declared.tree.Stmt.{Stmt}
use Rattle.item_types.specs.declared.decl.Names.{Names}
use Rattle.lang_grammar.specs.declared.fault.Fault.{Fault}
use Rattle.lang_grammar.specs.declared.fault.Fault.TheVariants.{Syntax, TooDeep}
use Rattle.lang_grammar.specs.Place.{Place, place, refusal}
use Rattle.lang_grammar.specs.Forms.{Form}
use Rattle.lang_grammar.specs.Table.{body}

-- the tree is a sentence of the tokens from one place up to another
pub record Between {A : Type 0} (F : Form A) (p : Place) (x : A) (q : Place) : Type 0 where
  pub tokens : List Token
  pub is : F.Is p.at x tokens
  pub parts : p.rest ≡ tokens ++ q.rest
  pub at : q.at ≡ p.at + length tokens

-- the token of a fault
abbrev pub token_of : Fault → ℕ
token_of (Syntax at) = at
token_of (TooDeep at) = at

-- the body of all these tokens, where so many forms may be open
abbrev pub IsBody : Bool → Names → ℕ → List Stmt → List Token → Type 0
IsBody step names n c tokens = (body step names n).Is 0 c tokens

-- these tokens are stuck within a body, or behind one
abbrev pub StuckBody : Bool → Names → ℕ → List Token → Fault → Type 0
StuckBody step names n tokens f =
    (body step names n).Stuck (place 0 tokens) f
    ⊎ ((c : List Stmt) × (q : Place) × (body step names n).Reads (place 0 tokens) c q × (0 < length q.rest) × (f ≡ refusal n q))
