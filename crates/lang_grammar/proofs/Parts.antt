-- What is read is a sentence of the tokens between both places.
use Rattle.std.proofs.Common.{ℕ, Bool, List, subst}
use Rattle.lang_lexer.specs.declared.token.Token.{Token}
use Rattle.syntax_tree.specs.declared.tree.Expr.{Expr}
use Rattle.syntax_tree.specs.declared.tree.Stmt.{Stmt}
use Rattle.item_types.specs.declared.decl.Names.{Names}
use Rattle.lang_grammar.specs.Place.{Place, Parser, Outcome}
use Rattle.lang_grammar.specs.Forms.{Form}
use Rattle.lang_grammar.specs.Table as table
use Rattle.lang_grammar.specs.Rules as rules
use Rattle.lang_grammar.specs.Sentence.{Between}
use Rattle.lang_grammar.proofs.Right.{Right, Says, Found}
use Rattle.lang_grammar.proofs.Tabled.{right_expr}
use Rattle.lang_grammar.proofs.Stated.{right_body}

found_between : {A : Type 0} (F : Form A) (p : Place) (x : A) (q : Place) → Found F p x q → Between F p x q
found_between F p x q h = record { tokens = h.tokens; is = h.is; parts = h.lies.parts; at = h.lies.at }

between : {A : Type 0} (F : Form A) (r : Parser A) (T : Token → Bool) → Right F r T → (p q : Place) (x : A) → F.Reads p x q → Between F p x q
between {A} F r T right p q x h = found_between F p x q (subst (λ (o : Outcome A). Says F p o) (right.reads p x q h) (right.says p))

pub bodies : (step : Bool) (names : Names) (n : ℕ) (p q : Place) (c : List Stmt) → (table.body step names n).Reads p c q → Between (table.body step names n) p c q
bodies step names n p q c h = between (table.body step names n) (rules.body step names n) _ (right_body step names n) p q c h

pub expressions : (step : Bool) (names : Names) (n : ℕ) (p q : Place) (x : Expr) → (table.expr step names n).Reads p x q → Between (table.expr step names n) p x q
expressions step names n p q x h = between (table.expr step names n) (rules.expr step names n) _ (right_expr step names n) p q x h
