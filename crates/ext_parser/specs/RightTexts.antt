-- The texts of a project: each body and each method is the tree of a sentence whose names are right. This project's own.
use Rattle.std.specs.Prelude.{◌≡◌, ℕ, List, length, Some, slice_get}
use Rattle.item_types.specs.declared.decl.Names.{Names}
use Rattle.item_types.specs.declared.decl.RecorderDecl.{RecorderDecl}
use Rattle.item_types.specs.declared.step.StepDecl.{StepDecl}
use Rattle.syntax_tree.specs.declared.tree.Body.{Body}
use Rattle.syntax_tree.specs.declared.tree.Method.{Method}
use Rattle.syntax_tree.specs.declared.tree.Methods.{Methods}
use Rattle.step_lang.specs.Language.{IsBodyOf, IsMethodOf}

-- some text is this body of the step
abbrev pub IsReadBody : Names → StepDecl → Body → Type 0
IsReadBody names decl b = (text : List ℕ) × IsBodyOf names decl b text

-- some text is this method of the recorder
abbrev pub IsReadMethod : Names → ℕ → ℕ → Method → Type 0
IsReadMethod names recorder method m = (text : List ℕ) × IsMethodOf names recorder method m text

-- as many methods as the recorder declares, each of which was read
pub record AreReadMethodsOf (names : Names) (recorder : ℕ) (decl : RecorderDecl) (list : List Method) : Type 0 where
  pub count : length list ≡ length decl.methods
  pub read : (i : ℕ) (m : Method) → slice_get list i ≡ Some m → IsReadMethod names recorder i m

-- a list of methods for each recorder
pub record AreReadMethods (names : Names) (methods : Methods) : Type 0 where
  pub count : length methods.lists ≡ length names.recorders
  pub read : (recorder : ℕ) (decl : RecorderDecl) (list : List Method) → slice_get names.recorders recorder ≡ Some decl → slice_get methods.lists recorder ≡ Some list
      → AreReadMethodsOf names recorder decl list
