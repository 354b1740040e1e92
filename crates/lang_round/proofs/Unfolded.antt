-- The tokens of a statement, form by form.
use Rattle.std.proofs.Common.{◌≡◌, ℕ, List, ◌∷◌, ◌++◌, map, sym, ap, ◌∙◌}
use Rattle.std.specs.Prelude.{Option, Some, None}
use Rattle.lang_lexer.specs.declared.token.Mark.TheVariants.{Fail, Me, Static, Print, Return}
use Rattle.lang_lexer.specs.declared.token.Token.{Token}
use Rattle.lang_lexer.specs.declared.token.Token.TheVariants.{Sign, Name}
use Rattle.syntax_tree.specs.declared.tree.Invoke.{Invoke}
use Rattle.syntax_tree.specs.declared.tree.Expr.{Expr}
use Rattle.syntax_tree.specs.declared.tree.Stmt.{Stmt}
use Rattle.syntax_tree.specs.declared.tree.Stmt.TheVariants as b
use Rattle.syntax_tree.specs.declared.tree.Stmt.TheVariants.{rolls-If, rolls-Let, rolls-LetCall, rolls-CallOf, rolls-Produce, rolls-For, rolls-FailWith, rolls-Print, rolls-Return, rolls-Add, rolls-SetStatic, rolls-SetSelf, rolls-SetField}
use Rattle.syntax_tree.specs.declared.tree.Stmt.TheFolds.{fold-roll-Stmt}
use Rattle.syntax_tree.specs.declared.tree.Stmt.TheOpen as one
use Rattle.syntax_tree.specs.Known.{Known}
use Rattle.lang_print.specs.Tokens.{let_tokens, let_called, called, produce_tokens, for_tokens, if_tokens, said, add_tokens, set_to, other_of, stmt_step, stmt_tokens}

module _ (k : Known) where
  abbrev pr : Stmt → List Token
  pr = stmt_tokens k.names

  pub tokens_let : (at : ℕ) (x : List ℕ) (v : Expr) → pr (b.Let at x v) ≡ let_tokens k.names x v
  tokens_let at x v = ap pr (sym (rolls-Let at x v)) ∙ fold-roll-Stmt (List Token) (stmt_step k.names) (one.Let at x v)

  pub tokens_letcall : (at : ℕ) (x : List ℕ) (c : Invoke) → pr (b.LetCall at x c) ≡ let_called k.names x c
  tokens_letcall at x c = ap pr (sym (rolls-LetCall at x c)) ∙ fold-roll-Stmt (List Token) (stmt_step k.names) (one.LetCall at x c)

  pub tokens_callof : (c : Invoke) → pr (b.CallOf c) ≡ called k.names c
  tokens_callof c = ap pr (sym (rolls-CallOf c)) ∙ fold-roll-Stmt (List Token) (stmt_step k.names) (one.CallOf c)

  pub tokens_produce : (at item : ℕ) (v : Expr) → pr (b.Produce at item v) ≡ produce_tokens k.names item v
  tokens_produce at item v = ap pr (sym (rolls-Produce at item v)) ∙ fold-roll-Stmt (List Token) (stmt_step k.names) (one.Produce at item v)

  pub tokens_for : (at : ℕ) (x : List ℕ) (l : Expr) (c : List Stmt) → pr (b.For at x l c) ≡ for_tokens k.names x l (map pr c)
  tokens_for at x l c = ap pr (sym (rolls-For at x l c)) ∙ fold-roll-Stmt (List Token) (stmt_step k.names) (one.For at x l c)

  pub tokens_failwith : (at : ℕ) (v : Expr) → pr (b.FailWith at v) ≡ said k.names Fail v
  tokens_failwith at v = ap pr (sym (rolls-FailWith at v)) ∙ fold-roll-Stmt (List Token) (stmt_step k.names) (one.FailWith at v)

  pub tokens_print : (at : ℕ) (v : Expr) → pr (b.Print at v) ≡ said k.names Print v
  tokens_print at v = ap pr (sym (rolls-Print at v)) ∙ fold-roll-Stmt (List Token) (stmt_step k.names) (one.Print at v)

  pub tokens_return : (at : ℕ) (v : Expr) → pr (b.Return at v) ≡ said k.names Return v
  tokens_return at v = ap pr (sym (rolls-Return at v)) ∙ fold-roll-Stmt (List Token) (stmt_step k.names) (one.Return at v)

  pub tokens_add : (at : ℕ) (l v : Expr) → pr (b.Add at l v) ≡ add_tokens k.names l v
  tokens_add at l v = ap pr (sym (rolls-Add at l v)) ∙ fold-roll-Stmt (List Token) (stmt_step k.names) (one.Add at l v)

  pub tokens_setstatic : (at : ℕ) (f : List ℕ) (v : Expr) → pr (b.SetStatic at f v) ≡ Sign Static ∷ set_to k.names f v
  tokens_setstatic at f v = ap pr (sym (rolls-SetStatic at f v)) ∙ fold-roll-Stmt (List Token) (stmt_step k.names) (one.SetStatic at f v)

  pub tokens_setself : (at dot : ℕ) (f : List ℕ) (v : Expr) → pr (b.SetSelf at dot f v) ≡ Sign Me ∷ set_to k.names f v
  tokens_setself at dot f v = ap pr (sym (rolls-SetSelf at dot f v)) ∙ fold-roll-Stmt (List Token) (stmt_step k.names) (one.SetSelf at dot f v)

  pub tokens_setfield : (at dot : ℕ) (x f : List ℕ) (v : Expr) → pr (b.SetField at dot x f v) ≡ Name x ∷ set_to k.names f v
  tokens_setfield at dot x f v = ap pr (sym (rolls-SetField at dot x f v)) ∙ fold-roll-Stmt (List Token) (stmt_step k.names) (one.SetField at dot x f v)

  pub tokens_if : (at : ℕ) (x : Expr) (c : List Stmt) (o : Option (List Stmt)) → pr (b.If at x c o) ≡ if_tokens k.names x (map pr c) ++ other_of k.names o
  tokens_if at x c None = ap pr (sym (rolls-If at x c None)) ∙ fold-roll-Stmt (List Token) (stmt_step k.names) (one.If at x c None)
  tokens_if at x c (Some d) = ap pr (sym (rolls-If at x c (Some d))) ∙ fold-roll-Stmt (List Token) (stmt_step k.names) (one.If at x c (Some d))
