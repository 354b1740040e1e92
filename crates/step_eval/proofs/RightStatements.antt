-- What is asked of the parts of a right statement, and statements of which nothing is asked.
use Rattle.std.proofs.Common.{ℕ, List, [], ◌∷◌, length, Some, None}
use Rattle.syntax_tree.specs.declared.tree.Expr.{Expr}
use Rattle.syntax_tree.specs.declared.tree.Invoke.{Invoke}
use Rattle.syntax_tree.specs.declared.tree.Stmt.{Stmt, roll-Stmt}
use Rattle.syntax_tree.specs.declared.tree.Stmt.TheOpen.{Stmt-F}
use Rattle.syntax_tree.specs.declared.tree.Stmt.TheOpen as form
use Rattle.step_eval.specs.Setting.{Setting}
use Rattle.step_eval.proofs.Closed.{Always}
use Rattle.step_eval.proofs.Rightly.{AllRight, AnyExpr, any_exprs}

abbrev pub AllRightStmts : (Stmt → Type 0) → List Stmt → Type 0
AllRightStmts R [] = Unit {0}
AllRightStmts R (d ∷ ds) = R d × AllRightStmts R ds

module _ (W : ℕ → ℕ → Type 0) (cx : Setting) (Right : Expr → Type 0) where
  abbrev pub RightCall : (ℕ → ℕ → ℕ → Type 0) → Invoke → Type 0
  RightCall MayCall i = AllRight W cx Right i.args × MayCall i.recorder i.method (length i.args)

  -- each part is right, the item may be put, and the method called with so many arguments
  abbrev pub OpensStmt : (ℕ → Type 0) → (ℕ → ℕ → ℕ → Type 0) → (Stmt → Type 0) → Stmt-F Stmt → Type 0
  OpensStmt MayPut MayCall R (form.Let at name e) = Right e
  OpensStmt MayPut MayCall R (form.LetCall at name i) = RightCall MayCall i
  OpensStmt MayPut MayCall R (form.CallOf i) = RightCall MayCall i
  OpensStmt MayPut MayCall R (form.Produce at item e) = Right e × MayPut item
  OpensStmt MayPut MayCall R (form.For at name e ds) = Right e × AllRightStmts R ds
  OpensStmt MayPut MayCall R (form.If at e ds None) = Right e × AllRightStmts R ds
  OpensStmt MayPut MayCall R (form.If at e ds (Some os)) = Right e × AllRightStmts R ds × AllRightStmts R os
  OpensStmt MayPut MayCall R (form.FailWith at e) = Right e
  OpensStmt MayPut MayCall R (form.Print at e) = Unit {0}
  OpensStmt MayPut MayCall R (form.Return at e) = Unit {0}
  OpensStmt MayPut MayCall R (form.Add at e v) = Unit {0}
  OpensStmt MayPut MayCall R (form.SetStatic at f e) = Unit {0}
  OpensStmt MayPut MayCall R (form.SetSelf at dot f e) = Unit {0}
  OpensStmt MayPut MayCall R (form.SetField at dot name f e) = Unit {0}

-- of items, calls and statements at large
abbrev pub AnyPut : ℕ → Type 0
AnyPut item = Unit {0}

abbrev pub AnyCall : ℕ → ℕ → ℕ → Type 0
AnyCall recorder method count = Unit {0}

abbrev pub AnyStmt : Stmt → Type 0
AnyStmt d = Unit {0}

pub any_stmts : (ds : List Stmt) → AllRightStmts AnyStmt ds
any_stmts [] = tt
any_stmts (d ∷ ds) = (tt, any_stmts ds)

pub any_opens_stmt : (cx : Setting) (y : Stmt-F Stmt) → AnyStmt (roll-Stmt y) → OpensStmt Always cx AnyExpr AnyPut AnyCall AnyStmt y
any_opens_stmt cx (form.Let at name e) r = tt
any_opens_stmt cx (form.LetCall at name i) r = (any_exprs cx i.args, tt)
any_opens_stmt cx (form.CallOf i) r = (any_exprs cx i.args, tt)
any_opens_stmt cx (form.Produce at item e) r = (tt, tt)
any_opens_stmt cx (form.For at name e ds) r = (tt, any_stmts ds)
any_opens_stmt cx (form.If at e ds None) r = (tt, any_stmts ds)
any_opens_stmt cx (form.If at e ds (Some os)) r = (tt, any_stmts ds, any_stmts os)
any_opens_stmt cx (form.FailWith at e) r = tt
any_opens_stmt cx (form.Print at e) r = tt
any_opens_stmt cx (form.Return at e) r = tt
any_opens_stmt cx (form.Add at e v) r = tt
any_opens_stmt cx (form.SetStatic at f e) r = tt
any_opens_stmt cx (form.SetSelf at dot f e) r = tt
any_opens_stmt cx (form.SetField at dot name f e) r = tt
