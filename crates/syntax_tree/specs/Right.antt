-- Right trees: the forms of their kind alone, each number that of a declaration, each bean with its fields, each call with its arguments. This project's own.
use Rattle.std.specs.Prelude.{◌≡◌, ℕ, Bool, true, false, not, ◌&&◌, ◌||◌, ◌==◌, IsTrue, List, [], ◌∷◌, length, map, Option, Some, None, slice_get}
use Rattle.std.specs.List.{list_all}
use Rattle.item_types.specs.declared.decl.BeanDecl.{BeanDecl}
use Rattle.item_types.specs.declared.decl.MethodSig.{MethodSig}
use Rattle.item_types.specs.declared.decl.RecorderDecl.{RecorderDecl}
use Rattle.item_types.specs.declared.decl.Names.{Names}
use Rattle.item_types.specs.declared.step.StepDecl.{StepDecl}
use Rattle.syntax_tree.specs.declared.tree.Link.{Link}
use Rattle.syntax_tree.specs.declared.tree.Invoke.{Invoke}
use Rattle.syntax_tree.specs.declared.tree.Expr.{Expr, fold-Expr}
use Rattle.syntax_tree.specs.declared.tree.Expr.TheOpen.{Expr-F}
use Rattle.syntax_tree.specs.declared.tree.Expr.TheOpen as one
use Rattle.syntax_tree.specs.declared.tree.Stmt.{Stmt, fold-Stmt}
use Rattle.syntax_tree.specs.declared.tree.Stmt.TheOpen.{Stmt-F}
use Rattle.syntax_tree.specs.declared.tree.Stmt.TheOpen as form
use Rattle.syntax_tree.specs.declared.tree.Body.{Body}
use Rattle.syntax_tree.specs.declared.tree.Method.{Method}
use Rattle.syntax_tree.specs.declared.tree.Methods.{Methods}
use Rattle.syntax_tree.specs.Known.{Known, of_step, of_recorder, contains, consumed, produced, kind_is, is_simple, is_several, carries_value, all_in, method_of}

-- no name stands twice
abbrev pub distinct : List (List ℕ) → Bool
distinct [] = true
distinct (w ∷ ws) = not (contains ws w) && distinct ws

-- a bean that is declared, each of its fields once, and no other
abbrev pub each_field_once : Option BeanDecl → List (List ℕ) → Bool
each_field_once None ws = false
each_field_once (Some bean) ws = all_in bean.fields ws && all_in ws bean.fields && distinct ws

-- a method that is declared, with as many parameters
abbrev pub takes : Option MethodSig → ℕ → Bool
takes None count = false
takes (Some m) count = length m.params == count

-- the first of these fields is among those
abbrev pub first_in : List (List ℕ) → List Link → Bool
first_in fields [] = true
first_in fields (l ∷ ls) = contains fields l.field

-- of an expression: whether it is `self`, and whether it is right
pub record Part : Type 0 where
  pub me : Bool
  pub right : Bool

abbrev pub part : Bool → Part
part b = record { me = false; right = b }

abbrev pub all_parts : List Part → Bool
all_parts = list_all (λ (p : Part). p.right)

-- in a step's body where the truth value holds, else in a recorder's method
module _ (step : Bool) (k : Known) where
  abbrev pub right_expr_step : Expr-F Part → Part
  right_expr_step (one.Null at) = part true
  right_expr_step (one.Bool at v) = part true
  right_expr_step (one.Long at v) = part true
  right_expr_step (one.Str at v) = part true
  right_expr_step (one.Name at x) = part true
  right_expr_step (one.Get at item) = part (step && consumed k.consumes item && kind_is is_simple (slice_get k.names.items item))
  right_expr_step (one.All at item) = part (step && consumed k.consumes item && kind_is is_several (slice_get k.names.items item))
  right_expr_step (one.New at bean fs) = part (each_field_once (slice_get k.names.beans bean) (map (λ f. f.0) fs) && all_parts (map (λ f. f.1) fs))
  right_expr_step (one.ListOf at parts) = part (all_parts parts)
  right_expr_step (one.Fields inner links) = part (inner.right && (not inner.me || first_in k.fields links))
  right_expr_step (one.Len at inner) = part inner.right
  right_expr_step (one.Not at inner) = part inner.right
  right_expr_step (one.Sum parts signs) = part (all_parts parts)
  right_expr_step (one.Both parts signs) = part (all_parts parts)
  right_expr_step (one.Equal left sign right) = part (left.right && right.right)
  right_expr_step (one.Less left sign right) = part (left.right && right.right)
  right_expr_step (one.Paren at inner) = part inner.right
  right_expr_step (one.Me at) = record { me = true; right = not step }
  right_expr_step (one.StaticOf at f) = part (not step && contains k.statics f)

  abbrev pub part_of : Expr → Part
  part_of = fold-Expr Part right_expr_step

  abbrev pub is_right_expr : Expr → Bool
  is_right_expr x = (part_of x).right

  -- a step that records calls a method of a recorder with as many arguments as it has parameters
  abbrev pub is_right_call : Invoke → Bool
  is_right_call c = step && k.records && takes (method_of (slice_get k.names.recorders c.recorder) c.method) (length c.args) && list_all is_right_expr c.args

  abbrev pub all_right : List Bool → Bool
  all_right = list_all (λ b. b)

  abbrev pub other_right : Option (List Bool) → Bool
  other_right None = true
  other_right (Some block) = all_right block

  abbrev pub right_stmt_step : Stmt-F Bool → Bool
  right_stmt_step (form.Let at x v) = is_right_expr v
  right_stmt_step (form.LetCall at x c) = is_right_call c
  right_stmt_step (form.CallOf c) = is_right_call c
  right_stmt_step (form.Produce at item v) = step && produced k.produces item && kind_is carries_value (slice_get k.names.items item) && is_right_expr v
  right_stmt_step (form.For at x list block) = is_right_expr list && all_right block
  right_stmt_step (form.If at x block other) = is_right_expr x && all_right block && other_right other
  right_stmt_step (form.FailWith at v) = is_right_expr v
  right_stmt_step (form.Print at v) = not step && is_right_expr v
  right_stmt_step (form.Return at v) = not step && is_right_expr v
  right_stmt_step (form.Add at list v) = not step && is_right_expr list && is_right_expr v
  right_stmt_step (form.SetStatic at f v) = not step && contains k.statics f && is_right_expr v
  right_stmt_step (form.SetSelf at dot f v) = not step && contains k.fields f && is_right_expr v
  right_stmt_step (form.SetField at dot x f v) = not step && is_right_expr v

  abbrev pub is_right_stmt : Stmt → Bool
  is_right_stmt = fold-Stmt Bool right_stmt_step

  abbrev pub are_right : List Stmt → Bool
  are_right c = list_all is_right_stmt c

-- a body of this step
abbrev pub IsRightBody : Names → StepDecl → Body → Type 0
IsRightBody names decl b = IsTrue (are_right true (of_step names decl) b.stmts)

-- a method of this recorder
abbrev pub IsRightMethod : Names → ℕ → Method → Type 0
IsRightMethod names recorder m = IsTrue (are_right false (of_recorder names recorder) m.stmts)

-- as many right methods as the recorder has
pub record AreRightMethodsOf (names : Names) (recorder : ℕ) (decl : RecorderDecl) (list : List Method) : Type 0 where
  pub count : length list ≡ length decl.methods
  pub right : (i : ℕ) (m : Method) → slice_get list i ≡ Some m → IsRightMethod names recorder m

-- a list of right methods for each recorder
pub record AreRightMethods (names : Names) (methods : Methods) : Type 0 where
  pub count : length methods.lists ≡ length names.recorders
  pub right : (recorder : ℕ) (decl : RecorderDecl) (list : List Method) → slice_get names.recorders recorder ≡ Some decl → slice_get methods.lists recorder ≡ Some list
      → AreRightMethodsOf names recorder decl list
