-- The tokens of an expression, form by form.
use Rattle.std.proofs.Common.{◌≡◌, ℕ, ℤ, Bool, false, List, [], ◌∷◌, map, sym, ap, ◌∙◌}
use Rattle.lang_lexer.specs.declared.token.Mark.TheVariants.{Get, All, Len, Null, Me, Static, Dot, Equal, Less, Plus, Bang, And}
use Rattle.lang_lexer.specs.declared.token.Token.{Token}
use Rattle.lang_lexer.specs.declared.token.Token.TheVariants.{Sign, Number, Str, Name}
use Rattle.syntax_tree.specs.declared.tree.Link.{Link}
use Rattle.syntax_tree.specs.declared.tree.Expr.{Expr}
use Rattle.syntax_tree.specs.declared.tree.Expr.TheVariants as e
use Rattle.syntax_tree.specs.declared.tree.Expr.TheVariants.{rolls-Null, rolls-Bool, rolls-Long, rolls-Str, rolls-Name, rolls-Get, rolls-All, rolls-New, rolls-ListOf, rolls-Fields, rolls-Len, rolls-Not, rolls-Sum, rolls-Both, rolls-Equal, rolls-Less, rolls-Paren, rolls-Me, rolls-StaticOf}
use Rattle.syntax_tree.specs.declared.tree.Expr.TheFolds.{fold-roll-Expr}
use Rattle.syntax_tree.specs.declared.tree.Expr.TheOpen as one
use Rattle.syntax_tree.specs.Known.{Known}
use Rattle.lang_print.specs.Naming.{item_name}
use Rattle.lang_print.specs.Tokens.{parted, bool_mark, new_tokens, paren_tokens, compared, linked, listed, expr_step, expr_tokens, with_tokens}

module _ (k : Known) where
  abbrev pr : Expr → List Token
  pr = expr_tokens k.names

  pub tokens_null : (at : ℕ) → pr (e.Null at) ≡ Sign Null ∷ []
  tokens_null at = ap pr (sym (rolls-Null at)) ∙ fold-roll-Expr (List Token) (expr_step k.names) (one.Null at)

  pub tokens_bool : (at : ℕ) (v : Bool) → pr (e.Bool at v) ≡ Sign (bool_mark v) ∷ []
  tokens_bool at v = ap pr (sym (rolls-Bool at v)) ∙ fold-roll-Expr (List Token) (expr_step k.names) (one.Bool at v)

  pub tokens_long : (at : ℕ) (v : ℤ) → pr (e.Long at v) ≡ Number v ∷ []
  tokens_long at v = ap pr (sym (rolls-Long at v)) ∙ fold-roll-Expr (List Token) (expr_step k.names) (one.Long at v)

  pub tokens_str : (at : ℕ) (v : List ℕ) → pr (e.Str at v) ≡ Str v ∷ []
  tokens_str at v = ap pr (sym (rolls-Str at v)) ∙ fold-roll-Expr (List Token) (expr_step k.names) (one.Str at v)

  pub tokens_name : (at : ℕ) (x : List ℕ) → pr (e.Name at x) ≡ Name x ∷ []
  tokens_name at x = ap pr (sym (rolls-Name at x)) ∙ fold-roll-Expr (List Token) (expr_step k.names) (one.Name at x)

  pub tokens_get : (at item : ℕ) → pr (e.Get at item) ≡ Sign Get ∷ Name (item_name k.names item) ∷ []
  tokens_get at item = ap pr (sym (rolls-Get at item)) ∙ fold-roll-Expr (List Token) (expr_step k.names) (one.Get at item)

  pub tokens_all : (at item : ℕ) → pr (e.All at item) ≡ Sign All ∷ Name (item_name k.names item) ∷ []
  tokens_all at item = ap pr (sym (rolls-All at item)) ∙ fold-roll-Expr (List Token) (expr_step k.names) (one.All at item)

  pub tokens_new : (at bean : ℕ) (fs : List (List ℕ × Expr)) → pr (e.New at bean fs) ≡ new_tokens k.names bean (with_tokens k.names fs)
  tokens_new at bean fs = ap pr (sym (rolls-New at bean fs)) ∙ fold-roll-Expr (List Token) (expr_step k.names) (one.New at bean fs)

  pub tokens_listof : (at : ℕ) (parts : List Expr) → pr (e.ListOf at parts) ≡ listed (map pr parts)
  tokens_listof at parts = ap pr (sym (rolls-ListOf at parts)) ∙ fold-roll-Expr (List Token) (expr_step k.names) (one.ListOf at parts)

  pub tokens_fields : (inner : Expr) (links : List Link) → pr (e.Fields inner links) ≡ linked (pr inner) links
  tokens_fields inner links = ap pr (sym (rolls-Fields inner links)) ∙ fold-roll-Expr (List Token) (expr_step k.names) (one.Fields inner links)

  pub tokens_len : (at : ℕ) (inner : Expr) → pr (e.Len at inner) ≡ Sign Len ∷ pr inner
  tokens_len at inner = ap pr (sym (rolls-Len at inner)) ∙ fold-roll-Expr (List Token) (expr_step k.names) (one.Len at inner)

  pub tokens_not : (at : ℕ) (inner : Expr) → pr (e.Not at inner) ≡ Sign Bang ∷ pr inner
  tokens_not at inner = ap pr (sym (rolls-Not at inner)) ∙ fold-roll-Expr (List Token) (expr_step k.names) (one.Not at inner)

  pub tokens_sum : (parts : List Expr) (signs : List ℕ) → pr (e.Sum parts signs) ≡ parted Plus false (map pr parts)
  tokens_sum parts signs = ap pr (sym (rolls-Sum parts signs)) ∙ fold-roll-Expr (List Token) (expr_step k.names) (one.Sum parts signs)

  pub tokens_both : (parts : List Expr) (signs : List ℕ) → pr (e.Both parts signs) ≡ parted And false (map pr parts)
  tokens_both parts signs = ap pr (sym (rolls-Both parts signs)) ∙ fold-roll-Expr (List Token) (expr_step k.names) (one.Both parts signs)

  pub tokens_equal : (left : Expr) (sign : ℕ) (right : Expr) → pr (e.Equal left sign right) ≡ compared Equal (pr left) (pr right)
  tokens_equal left sign right = ap pr (sym (rolls-Equal left sign right)) ∙ fold-roll-Expr (List Token) (expr_step k.names) (one.Equal left sign right)

  pub tokens_less : (left : Expr) (sign : ℕ) (right : Expr) → pr (e.Less left sign right) ≡ compared Less (pr left) (pr right)
  tokens_less left sign right = ap pr (sym (rolls-Less left sign right)) ∙ fold-roll-Expr (List Token) (expr_step k.names) (one.Less left sign right)

  pub tokens_paren : (at : ℕ) (inner : Expr) → pr (e.Paren at inner) ≡ paren_tokens (pr inner)
  tokens_paren at inner = ap pr (sym (rolls-Paren at inner)) ∙ fold-roll-Expr (List Token) (expr_step k.names) (one.Paren at inner)

  pub tokens_me : (at : ℕ) → pr (e.Me at) ≡ Sign Me ∷ []
  tokens_me at = ap pr (sym (rolls-Me at)) ∙ fold-roll-Expr (List Token) (expr_step k.names) (one.Me at)

  pub tokens_staticof : (at : ℕ) (f : List ℕ) → pr (e.StaticOf at f) ≡ Sign Static ∷ Sign Dot ∷ Name f ∷ []
  tokens_staticof at f = ap pr (sym (rolls-StaticOf at f)) ∙ fold-roll-Expr (List Token) (expr_step k.names) (one.StaticOf at f)
