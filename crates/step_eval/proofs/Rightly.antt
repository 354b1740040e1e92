-- What is asked of the parts of a right expression, and expressions of which nothing is asked.
use Rattle.std.proofs.Common.{ℕ, List, [], ◌∷◌, length, slice_get}
use Rattle.item_types.specs.Named.{fields_of}
use Rattle.syntax_tree.specs.declared.tree.Expr.{Expr, roll-Expr}
use Rattle.syntax_tree.specs.declared.tree.Expr.TheOpen.{Expr-F}
use Rattle.syntax_tree.specs.declared.tree.Expr.TheOpen as form
use Rattle.step_eval.specs.Setting.{Setting}
use Rattle.step_eval.proofs.Closed.{Always}

module _ (W : ℕ → ℕ → Type 0) (cx : Setting) (Right : Expr → Type 0) where
  abbrev pub AllRight : List Expr → Type 0
  AllRight [] = Unit {0}
  AllRight (e ∷ es) = Right e × AllRight es

  abbrev pub NamedRight : List (List ℕ × Expr) → Type 0
  NamedRight [] = Unit {0}
  NamedRight (f ∷ fs) = Right f.1 × NamedRight fs

  -- each part is right, and W holds of a bean and the number of its fields
  abbrev pub Opens : Expr-F Expr → Type 0
  Opens (form.Null at) = Unit {0}
  Opens (form.Bool at b) = Unit {0}
  Opens (form.Long at n) = Unit {0}
  Opens (form.Str at t) = Unit {0}
  Opens (form.Name at name) = Unit {0}
  Opens (form.Get at item) = Unit {0}
  Opens (form.All at item) = Unit {0}
  Opens (form.New at bean fields) = W bean (length (fields_of (slice_get cx.names.beans bean))) × NamedRight fields
  Opens (form.ListOf at es) = AllRight es
  Opens (form.Fields e links) = Right e
  Opens (form.Len at e) = Right e
  Opens (form.Not at e) = Right e
  Opens (form.Sum es signs) = AllRight es
  Opens (form.Both es signs) = AllRight es
  Opens (form.Equal a sign b) = Right a × Right b
  Opens (form.Less a sign b) = Right a × Right b
  Opens (form.Paren at e) = Right e
  Opens (form.Me at) = Unit {0}
  Opens (form.StaticOf at f) = Unit {0}

-- of expressions at large
abbrev pub AnyExpr : Expr → Type 0
AnyExpr e = Unit {0}

pub any_exprs : (cx : Setting) (es : List Expr) → AllRight Always cx AnyExpr es
any_exprs cx [] = tt
any_exprs cx (e ∷ es) = (tt, any_exprs cx es)

any_named : (cx : Setting) (fs : List (List ℕ × Expr)) → NamedRight Always cx AnyExpr fs
any_named cx [] = tt
any_named cx (f ∷ fs) = (tt, any_named cx fs)

pub any_opens : (cx : Setting) (y : Expr-F Expr) → AnyExpr (roll-Expr y) → Opens Always cx AnyExpr y
any_opens cx (form.Null at) r = tt
any_opens cx (form.Bool at b) r = tt
any_opens cx (form.Long at n) r = tt
any_opens cx (form.Str at t) r = tt
any_opens cx (form.Name at name) r = tt
any_opens cx (form.Get at item) r = tt
any_opens cx (form.All at item) r = tt
any_opens cx (form.New at bean fields) r = (tt, any_named cx fields)
any_opens cx (form.ListOf at es) r = any_exprs cx es
any_opens cx (form.Fields e links) r = tt
any_opens cx (form.Len at e) r = tt
any_opens cx (form.Not at e) r = tt
any_opens cx (form.Sum es signs) r = any_exprs cx es
any_opens cx (form.Both es signs) r = any_exprs cx es
any_opens cx (form.Equal a sign b) r = (tt, tt)
any_opens cx (form.Less a sign b) r = (tt, tt)
any_opens cx (form.Paren at e) r = tt
any_opens cx (form.Me at) r = tt
any_opens cx (form.StaticOf at f) r = tt
