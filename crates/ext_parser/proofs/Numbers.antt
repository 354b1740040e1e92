-- The items that a project's steps and finals name are declared.
use Rattle.std.proofs.Common.{◌≡◌, ◌⊎◌, inl, inr, ◌<◌, ◌++◌, ℕ, sym, subst, refl, arith, cond, List, [], ◌∷◌, length, Option, Some, None, Result, Ok, Err, IfOk, IfSome, length-append}
use Rattle.std.specs.List.{flat_map}
use Rattle.std.specs.Prelude.{codes, is_some, unwrap_or, IsTrue}
use Rattle.std.proofs.lemmas.List.{length-map}
use Rattle.item_types.specs.Numbered.{IsNumbered}
use Rattle.item_types.specs.declared.decl.Names.{Names}
use Rattle.project_fit.specs.Fits.{fits}
use Rattle.item_types.specs.declared.decl.BeanDecl.{BeanDecl}
use Rattle.item_types.specs.declared.decl.ItemDecl.{ItemDecl}
use Rattle.item_types.specs.declared.step.StepDecl.{StepDecl}
use Rattle.ext_draft.specs.declared.draft.Draft.{Draft}
use Rattle.ext_draft.specs.declared.draft.DraftExtension.{DraftExtension}
use Rattle.ext_draft.specs.declared.draft.DraftRecorder.{DraftRecorder}
use Rattle.ext_draft.specs.declared.draft.DraftStep.{DraftStep}
use Rattle.name_index.proofs.CallerLemmas.{place-within}
use Rattle.ext_parser.specs.Declarations.{number, step_of, steps_of}
use Rattle.ext_parser.specs.ProjectOfTheBytes.{project_of, project, texts_of}
use Rattle.name_index.specs.Place.{place, has}
use Rattle.ext_parser.specs.SecondWalk.{Checked, right, then, fresh, known_at, row, item_right, bean_right, recorder_right, step_right, extension_right, file_right}
use Rattle.ext_parser.specs.declared.fault.ProjectFault.{ProjectFault}
use Rattle.ext_parser.specs.declared.fault.ProjectFault.TheVariants.{Memory, Unknown}
use Rattle.ext_parser.specs.declared.known.Known.{Known}
use Rattle.ext_parser.specs.declared.project.Project.{Project}
use Rattle.ext_parser.specs.declared.second_walk.Before.{Before}
use Rattle.ext_parser.specs.declared.texts.Texts.{Texts}

-- what was right was right in each of its parts
pub then-ok : {A B : Type 0} (r : Result A ProjectFault) (next : A → Result B ProjectFault) (y : B) → then r next ≡ Ok y → (x : A) × (r ≡ Ok x) × (next x ≡ Ok y)
then-ok (Ok x) next y is = (x, refl, is)
then-ok (Err fault) next y is = cc

pub both : (now later : Checked) → then now (λ _. later) ≡ right → (now ≡ right) × (later ≡ right)
both (Ok tt) later is = (refl, is)
both (Err fault) later is = cc

numbered-at : (found : Option ℕ) (size : ℕ) (path : List ℕ) → ◌≡◌ {A = Checked} (cond (is_some found) right (Err (Unknown path))) right → IfSome found (λ n. n < size) → unwrap_or found 0 < size
numbered-at (Some n) size path is below = below
numbered-at None size path is below = let no : ◌≡◌ {A = Checked} (Err (Unknown path)) right = is in cc

-- an item that is right has the number of a declared one
pub known-number : (items : List (List ℕ)) (path : List ℕ) (before : List (List ℕ)) (text : List ℕ) → known_at items path before text ≡ right → number items text < length items
known-number items path before text is =
    numbered-at (place items text) (length items) path (both (fresh path before text) (cond (has items text) right (Err (Unknown path))) is).1 (place-within items text (place items text) refl)

-- an extension that is right, row by row
pub record IsRight (known : Known) (prefix : List ℕ) (before : Before) (e : DraftExtension) : Type 0 where
  pub name : fresh (prefix ++ codes "name") before.extensions e.name ≡ right
  pub items : row (λ (i : ItemDecl). i.name) item_right (prefix ++ codes "items") 0 before.items e.items ≡ right
  pub beans : row (λ (b : BeanDecl). b.name) bean_right (prefix ++ codes "beans") 0 before.beans e.beans ≡ right
  pub recorders : row (λ (r : DraftRecorder). r.name) recorder_right (prefix ++ codes "recorders") 0 before.recorders e.recorders ≡ right
  pub steps : row (λ (s : DraftStep). s.name) (step_right known) (prefix ++ codes "steps") 0 [] e.steps ≡ right

pub extension-right : (known : Known) (prefix : List ℕ) (before : Before) (e : DraftExtension) → extension_right known prefix before e ≡ right → IsRight known prefix before e
unfolding extension_right
extension-right known prefix before e is =
    let named = then-ok (fresh (prefix ++ codes "name") before.extensions e.name) _ tt is in
    let items = then-ok (row (λ (i : ItemDecl). i.name) item_right (prefix ++ codes "items") 0 before.items e.items) _ tt named.2 in
    let beans = then-ok (row (λ (b : BeanDecl). b.name) bean_right (prefix ++ codes "beans") 0 before.beans e.beans) _ tt items.2 in
    let recorders = then-ok (row (λ (r : DraftRecorder). r.name) recorder_right (prefix ++ codes "recorders") 0 before.recorders e.recorders) _ tt beans.2 in
    record { name = named.1; items = items.1; beans = beans.1; recorders = recorders.1; steps = recorders.2 }

pub same-lengths : (items on : List (List ℕ)) (es : List DraftExtension) → length (flat_map (steps_of items on) es) ≡ length (flat_map (λ (e : DraftExtension). e.steps) es)
same-lengths items on [] = refl
same-lengths items on (e ∷ es) =
    omega (
      arith,
      length-append (steps_of items on e) (flat_map (steps_of items on) es),
      length-append e.steps (flat_map (λ (d : DraftExtension). d.steps) es),
      length-map e.steps (step_of items on e.name),
      same-lengths items on es,
    )

-- what holds of each project of a draft whose names are right holds of what it is read as
pub kept-texts : (P : Project → Type 0) (d : Draft) (read : Result Texts ProjectFault) → ((t : Texts) → P (project_of d t)) → IfOk (then read (λ t. Ok (project_of d t))) P
kept-texts P d (Ok t) holds = holds t
kept-texts P d (Err fault) holds = tt

pub kept-checked : (P : Project → Type 0) (d : Draft) (checked : Checked) → file_right d ≡ checked → (file_right d ≡ right → (t : Texts) → P (project_of d t))
    → IfOk (then checked (λ _. then (texts_of d) (λ t. Ok (project_of d t)))) P
kept-checked P d (Ok tt) is holds = kept-texts P d (texts_of d) (holds is)
kept-checked P d (Err fault) is holds = tt

abbrev pub HasNumbers : Project → Type 0
HasNumbers p = IsNumbered p.steps p.names.items p.finals

fit-by : (r : Result Project ProjectFault) → ((names : Names) (steps : List StepDecl) (finals : List ℕ) → IsTrue (fits names steps finals) → IsNumbered steps names.items finals)
    → IfOk r (λ p. IsTrue (fits p.names p.steps p.finals)) → IfOk r HasNumbers
fit-by (Ok p) law fit = law p.names p.steps p.finals fit
fit-by (Err fault) law fit = tt

-- a project that fits is numbered
pub project-numbered : (bytes : List ℕ) → ((names : Names) (steps : List StepDecl) (finals : List ℕ) → IsTrue (fits names steps finals) → IsNumbered steps names.items finals)
    → IfOk (project bytes) (λ p. IsTrue (fits p.names p.steps p.finals)) → IfOk (project bytes) HasNumbers
project-numbered bytes law fit = fit-by (project bytes) law fit

-- what holds of the project of the bytes holds of the project that is answered
pub kept-answer : (P : Project → Type 0) (r : Result Project ProjectFault) (bytes : List ℕ) → IfOk (project bytes) P → (r ≡ Err Memory) ⊎ (r ≡ project bytes) → IfOk r P
kept-answer P r bytes holds is =
    elim is [
      | inl wanted ↦ subst (λ (x : Result Project ProjectFault). IfOk x P) (sym wanted) tt
      | inr found ↦ subst (λ (x : Result Project ProjectFault). IfOk x P) (sym found) holds
    ]
