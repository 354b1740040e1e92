-- Bodies and methods: the sentences whose names are right, and the first fault of every other text. This project's own.
use Rattle.std.specs.Prelude.{◌≡◌, ℕ, Bool, true, false, List, Err}
use Rattle.item_types.specs.declared.decl.Names.{Names}
use Rattle.item_types.specs.declared.step.StepDecl.{StepDecl}
use Rattle.syntax_tree.specs.declared.tree.Stmt.{Stmt}
use Rattle.syntax_tree.specs.declared.tree.Body.{Body}
use Rattle.syntax_tree.specs.declared.tree.Method.{Method}
use Rattle.lang_grammar.specs.Text.{IsText, TextStuck}
use Rattle.lang_grammar.specs.declared.fault.LangFault.{LangFault}
use Rattle.lang_grammar.specs.declared.fault.LangFault.TheVariants.{Unknown, Undeclared}
use Rattle.lang_names.specs.Checked.{Checked, right}
use Rattle.lang_names.specs.Names.{body_right, method_right}
use Rattle.lang_names.specs.declared.wrong.Wrong.TheVariants as wrong

-- the truth value says whether the text is a step's body; else it is a method's; check is the test of its names
module _ (step : Bool) (names : Names) (check : List Stmt → Checked) where
  -- these statements are the whole text, and their names are right
  pub record IsRight (c : List Stmt) (text : List ℕ) : Type 0 where
    pub sentence : IsText step names c text
    pub named : check c ≡ right

  -- the first fault of a text: where it is stuck, or else its first wrong name
  pub data FirstFault (text : List ℕ) : LangFault → Type 0 where
    stuck : (f : LangFault) → TextStuck step names text f → FirstFault text f
    unknown : (c : List Stmt) (at : ℕ) → IsText step names c text → check c ≡ Err (wrong.Unknown at) → FirstFault text (Unknown at)
    undeclared : (c : List Stmt) (at : ℕ) → IsText step names c text → check c ≡ Err (wrong.Undeclared at) → FirstFault text (Undeclared at)

-- the text is this body of a step
abbrev pub IsBodyOf : Names → StepDecl → Body → List ℕ → Type 0
IsBodyOf names decl b text = IsRight true names (body_right names decl) b.stmts text

abbrev pub BodyFault : Names → StepDecl → List ℕ → LangFault → Type 0
BodyFault names decl = FirstFault true names (body_right names decl)

-- the text is this method of a recorder
abbrev pub IsMethodOf : Names → ℕ → ℕ → Method → List ℕ → Type 0
IsMethodOf names recorder method m text = IsRight false names (method_right names recorder method) m.stmts text

abbrev pub MethodFault : Names → ℕ → ℕ → List ℕ → LangFault → Type 0
MethodFault names recorder method = FirstFault false names (method_right names recorder method)
