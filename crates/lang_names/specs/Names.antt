-- The first wrong name of a step's body and of a recorder's method. This project's own.
use Rattle.std.specs.Prelude.{ℕ, List, [], Option, Some, None, slice_get}
use Rattle.item_types.specs.declared.step.StepDecl.{StepDecl}
use Rattle.item_types.specs.declared.decl.Names.{Names}
use Rattle.item_types.specs.declared.decl.MethodSig.{MethodSig}
use Rattle.syntax_tree.specs.declared.tree.Stmt.{Stmt}
use Rattle.lang_names.specs.Checked.{Checked}
use Rattle.syntax_tree.specs.Known.{of_step, of_recorder, method_of}
use Rattle.lang_names.specs.Stmts.{names_right}

-- no variable is in scope where a body begins
abbrev pub body_right : Names → StepDecl → List Stmt → Checked
body_right names decl c = names_right (of_step names decl) [] c

abbrev pub names_of_params : Option MethodSig → List (List ℕ)
names_of_params None = []
names_of_params (Some m) = m.params

-- a method's parameters are in scope in its whole body
abbrev pub method_right : Names → ℕ → ℕ → List Stmt → Checked
method_right names recorder method c = names_right (of_recorder names recorder) (names_of_params (method_of (slice_get names.recorders recorder) method)) c
