-- A project has a body for each step.
use Rattle.std.proofs.Common.{◌≡◌, ap, refl, subst, arith, ℕ, suc, ◌+◌, List, [], ◌∷◌, ◌++◌, length, length-append, Result, Ok, Err, IfOk}
use Rattle.std.specs.List.{flat_map}
use Rattle.std.specs.Prelude.{codes}
use Rattle.std.proofs.lemmas.List.{length-map}
use Rattle.item_types.specs.declared.decl.Names.{Names}
use Rattle.syntax_tree.specs.declared.tree.Body.{Body}
use Rattle.ext_draft.specs.DraftOfTheBytes.{draft}
use Rattle.ext_draft.specs.Paths.{nth, inside}
use Rattle.ext_draft.specs.declared.draft.Draft.{Draft}
use Rattle.ext_draft.specs.declared.draft.DraftExtension.{DraftExtension}
use Rattle.ext_draft.specs.declared.draft.DraftStep.{DraftStep}
use Rattle.ext_draft.specs.declared.fault.DraftFault.{DraftFault}
use Rattle.ext_parser.specs.Declarations.{keys_on, step_of, steps_of, names_of}
use Rattle.ext_parser.specs.ProjectOfTheBytes.{project_of_draft, project, texts_of}
use Rattle.ext_parser.specs.SecondWalk.{then, file_right, item_names, items_of}
use Rattle.ext_parser.specs.ThirdWalk.{body_at, bodies_at, lists_at, extension_texts, texts_at}
use Rattle.ext_parser.specs.declared.fault.ProjectFault.{ProjectFault}
use Rattle.ext_parser.specs.declared.project.Project.{Project}
use Rattle.ext_parser.specs.declared.texts.Texts.{Texts}

-- what holds of each answer of what follows holds of the whole
then_holds : {A B : Type 0} (P : B → Type 0) (r : Result A ProjectFault) (next : A → Result B ProjectFault) → ((x : A) → r ≡ Ok x → IfOk (next x) P) → IfOk (then r next) P
then_holds P (Ok x) next holds = holds x refl
then_holds P (Err fault) next holds = tt

from_ok : {A : Type 0} (P : A → Type 0) (r : Result A ProjectFault) (x : A) → IfOk r P → r ≡ Ok x → P x
from_ok P (Ok y) x holds is = let e : y ≡ x = cc in subst P e holds
from_ok P (Err fault) x holds is = absurd (cc)

abbrev pub AreAsMany : {A : Type 0} → List A → List Body → Type 0
AreAsMany xs bodies = length bodies ≡ length xs

bodies_length : (names : Names) (items on : List (List ℕ)) (extension path : List ℕ) (n : ℕ) (steps : List DraftStep)
    → IfOk (bodies_at names items on extension path n steps) (AreAsMany steps)
bodies_length names items on extension path n [] = refl
bodies_length names items on extension path n (s ∷ steps) =
    then_holds (AreAsMany (s ∷ steps)) (body_at names (inside (nth path n)) (step_of items on extension s) s.body) _ (λ tree _.
    then_holds (AreAsMany (s ∷ steps)) (bodies_at names items on extension path (suc n) steps) _ (λ trees is.
    ap suc (from_ok (AreAsMany steps) (bodies_at names items on extension path (suc n) steps) trees (bodies_length names items on extension path (suc n) steps) is)))

abbrev pub HasAsMany : {A : Type 0} → List A → Texts → Type 0
HasAsMany xs texts = length texts.bodies ≡ length xs

extension_length : (names : Names) (items on : List (List ℕ)) (number : ℕ) (prefix : List ℕ) (e : DraftExtension)
    → IfOk (extension_texts names items on number prefix e) (HasAsMany e.steps)
unfolding extension_texts
extension_length names items on number prefix e =
    then_holds (HasAsMany e.steps) (lists_at names number (prefix ++ codes "recorders") 0 e.recorders) _ (λ lists _.
    then_holds (HasAsMany e.steps) (bodies_at names items on e.name (prefix ++ codes "steps") 0 e.steps) _ (λ bodies is.
    from_ok (AreAsMany e.steps) (bodies_at names items on e.name (prefix ++ codes "steps") 0 e.steps) bodies (bodies_length names items on e.name (prefix ++ codes "steps") 0 e.steps) is))

texts_length : (names : Names) (items on : List (List ℕ)) (number n : ℕ) (es : List DraftExtension)
    → IfOk (texts_at names items on number n es) (HasAsMany (flat_map (steps_of items on) es))
texts_length names items on number n [] = refl
texts_length names items on number n (e ∷ es) =
    let prefix = inside (nth (codes "extensions") n) in
    then_holds (HasAsMany (flat_map (steps_of items on) (e ∷ es))) (extension_texts names items on number prefix e) _ (λ now is.
    then_holds (HasAsMany (flat_map (steps_of items on) (e ∷ es))) (texts_at names items on (number + length now.lists) (suc n) es) _ (λ more rest.
    let first = from_ok (HasAsMany e.steps) (extension_texts names items on number prefix e) now (extension_length names items on number prefix e) is in
    let later = from_ok (HasAsMany (flat_map (steps_of items on) es)) (texts_at names items on (number + length now.lists) (suc n) es) more
    (texts_length names items on (number + length now.lists) (suc n) es) rest in
    omega (
      arith,
      first,
      later,
      length-append now.bodies more.bodies,
      length-append (steps_of items on e) (flat_map (steps_of items on) es),
      length-map e.steps (step_of items on e.name),
    )))

abbrev pub HasBodies : Project → Type 0
HasBodies p = length p.bodies ≡ length p.steps

drafted : (r : Result Draft DraftFault) → IfOk (project_of_draft r) HasBodies
drafted (Err fault) = tt
drafted (Ok d) =
    then_holds HasBodies (file_right d) _ (λ ok _.
    then_holds HasBodies (texts_of d) _ (λ texts is.
    from_ok (HasAsMany (flat_map (steps_of (item_names (items_of d.extensions)) (keys_on d.config)) d.extensions)) (texts_of d) texts
    (texts_length (names_of d.extensions) (item_names (items_of d.extensions)) (keys_on d.config) 0 0 d.extensions) is))

pub bodied : (bytes : List ℕ) → IfOk (project bytes) HasBodies
unfolding project
bodied bytes = drafted (draft bytes)
