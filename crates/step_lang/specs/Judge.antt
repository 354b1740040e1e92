-- The answer for a text, from what is read and the test of its names.
use Rattle.std.specs.Prelude.{ℕ, Bool, List, Result, Ok, Err}
use Rattle.item_types.specs.declared.decl.Names.{Names}
use Rattle.syntax_tree.specs.declared.tree.Stmt.{Stmt}
use Rattle.syntax_tree.specs.declared.tree.Body.{Body}
use Rattle.syntax_tree.specs.declared.tree.Method.{Method}
use Rattle.lang_grammar.specs.Text.{of_text, Told}
use Rattle.lang_grammar.specs.declared.fault.LangFault.{LangFault}
use Rattle.lang_grammar.specs.declared.fault.LangFault.TheVariants.{Unknown, Undeclared, Memory}
use Rattle.lang_names.specs.Checked.{Checked}
use Rattle.lang_names.specs.Stmts.{Rights}
use Rattle.lang_names.specs.declared.wrong.NameFault.{NameFault}
use Rattle.lang_names.specs.declared.wrong.NameFault.TheVariants as faults
use Rattle.lang_names.specs.declared.wrong.Wrong.TheVariants as wrong

abbrev pub told : NameFault → LangFault
told faults.Memory = Memory
told (faults.Wrong (wrong.Unknown at)) = Unknown at
told (faults.Wrong (wrong.Undeclared at)) = Undeclared at

abbrev pub body_made : List Stmt → Body
body_made c = record { stmts = c }

abbrev pub method_made : List Stmt → Method
method_made c = record { stmts = c }

-- a tree is made of its statements
module _ {A : Type 0} (make : List Stmt → A) where
  abbrev pub by_check : List Stmt → Checked → Result A LangFault
  by_check c (Ok x) = Ok (make c)
  by_check c (Err (wrong.Unknown at)) = Err (Unknown at)
  by_check c (Err (wrong.Undeclared at)) = Err (Undeclared at)

  abbrev pub judged : (List Stmt → Checked) → Result (List Stmt) LangFault → Result A LangFault
  judged check (Ok c) = by_check c (check c)
  judged check (Err f) = Err f

  unfoldable pub answer : Bool → Names → (List Stmt → Checked) → List ℕ → Result A LangFault
  answer step names check text = judged check (of_text step names text)

  -- what stands after a test, whatever it is that was tested
  abbrev pub Judges : List Stmt → Result (Unit {0}) NameFault → Result A LangFault → Type 0
  Judges c checked result = (k : Checked) → Rights k checked → Told (by_check c k) result
