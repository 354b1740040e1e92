-- The third walk over a project file: each body in order, read as the language of steps and recorders has it. This project's own.
use Rattle.std.specs.Prelude.{ℕ, suc, ◌+◌, true, false, List, [], ◌∷◌, ◌++◌, length, Result, Ok, Err, codes}
use Rattle.item_types.specs.declared.decl.Names.{Names}
use Rattle.item_types.specs.declared.step.StepDecl.{StepDecl}
use Rattle.syntax_tree.specs.declared.tree.Body.{Body}
use Rattle.syntax_tree.specs.declared.tree.Method.{Method}
use Rattle.lang_grammar.specs.declared.fault.LangFault.{LangFault}
use Rattle.lang_names.specs.Names.{body_right, method_right}
use Rattle.step_lang.specs.Judge.{answer, body_made, method_made}
use Rattle.ext_draft.specs.Paths.{nth, inside}
use Rattle.ext_draft.specs.declared.draft.DraftExtension.{DraftExtension}
use Rattle.ext_draft.specs.declared.draft.DraftMethod.{DraftMethod}
use Rattle.ext_draft.specs.declared.draft.DraftRecorder.{DraftRecorder}
use Rattle.ext_draft.specs.declared.draft.DraftStep.{DraftStep}
use Rattle.ext_parser.specs.Declarations.{step_of}
use Rattle.ext_parser.specs.SecondWalk.{then}
use Rattle.ext_parser.specs.declared.fault.ProjectFault.{ProjectFault}
use Rattle.ext_parser.specs.declared.fault.ProjectFault.TheVariants.{Body as BodyAt}
use Rattle.ext_parser.specs.declared.texts.Texts.{Texts}

-- the tree of the text at a path, or its first fault
abbrev pub parsed : {A : Type 0} → List ℕ → Result A LangFault → Result A ProjectFault
parsed path (Ok tree) = Ok tree
parsed path (Err fault) = Err (BodyAt path fault)

-- the body of a step, and a method of a recorder
abbrev pub body_at : Names → List ℕ → StepDecl → List ℕ → Result Body ProjectFault
body_at names prefix decl text = parsed (prefix ++ codes "body") (answer body_made true names (body_right names decl) text)

abbrev pub method_at : Names → List ℕ → ℕ → ℕ → List ℕ → Result Method ProjectFault
method_at names prefix recorder method text = parsed (prefix ++ codes "body") (answer method_made false names (method_right names recorder method) text)

-- the methods of a recorder from entry n on
abbrev pub methods_at : Names → ℕ → List ℕ → ℕ → List DraftMethod → Result (List Method) ProjectFault
methods_at names recorder path n [] = Ok []
methods_at names recorder path n (m ∷ methods) =
    then (method_at names (inside (nth path n)) recorder n m.body) (λ tree. then (methods_at names recorder path (suc n) methods) (λ trees. Ok (tree ∷ trees)))

-- the methods of recorders from entry n on, of which the first has that number in the file
abbrev pub lists_at : Names → ℕ → List ℕ → ℕ → List DraftRecorder → Result (List (List Method)) ProjectFault
lists_at names number path n [] = Ok []
lists_at names number path n (r ∷ recorders) =
    then (methods_at names number (inside (nth path n) ++ codes "methods") 0 r.methods) (λ list.
    then (lists_at names (suc number) path (suc n) recorders) (λ lists. Ok (list ∷ lists)))

-- the bodies of the steps of an extension from entry n on
abbrev pub bodies_at : Names → List (List ℕ) → List (List ℕ) → List ℕ → List ℕ → ℕ → List DraftStep → Result (List Body) ProjectFault
bodies_at names items on extension path n [] = Ok []
bodies_at names items on extension path n (s ∷ steps) =
    then (body_at names (inside (nth path n)) (step_of items on extension s) s.body) (λ tree.
    then (bodies_at names items on extension path (suc n) steps) (λ trees. Ok (tree ∷ trees)))

-- an extension, after so many recorders: its methods, and then its bodies
unfoldable pub extension_texts : Names → List (List ℕ) → List (List ℕ) → ℕ → List ℕ → DraftExtension → Result Texts ProjectFault
extension_texts names items on number prefix e =
    then (lists_at names number (prefix ++ codes "recorders") 0 e.recorders) (λ lists.
    then (bodies_at names items on e.name (prefix ++ codes "steps") 0 e.steps) (λ bodies. Ok (record { lists = lists; bodies = bodies })))

abbrev pub no_texts : Texts
no_texts = record { lists = []; bodies = [] }

abbrev pub texts_with : Texts → Texts → Texts
texts_with found more = record { lists = found.lists ++ more.lists; bodies = found.bodies ++ more.bodies }

-- the extensions from entry n on, after so many recorders
abbrev pub texts_at : Names → List (List ℕ) → List (List ℕ) → ℕ → ℕ → List DraftExtension → Result Texts ProjectFault
texts_at names items on number n [] = Ok no_texts
texts_at names items on number n (e ∷ extensions) =
    then (extension_texts names items on number (inside (nth (codes "extensions") n)) e) (λ now.
    then (texts_at names items on (number + length now.lists) (suc n) extensions) (λ more. Ok (texts_with now more)))
