-- The second walk over a project file: the names in order, each beside those that it may not repeat and among those that it has to be. This project's own.
use Rattle.std.specs.Prelude.{ℕ, suc, List, [], ◌∷◌, ◌++◌, map, cond, Result, Ok, Err, codes}
use Rattle.std.specs.List.{flat_map}
use Rattle.item_types.specs.declared.decl.BeanDecl.{BeanDecl}
use Rattle.item_types.specs.declared.decl.ItemDecl.{ItemDecl}
use Rattle.ext_draft.specs.Paths.{nth, inside}
use Rattle.ext_draft.specs.declared.draft.Draft.{Draft}
use Rattle.ext_draft.specs.declared.draft.DraftConsume.{DraftConsume}
use Rattle.ext_draft.specs.declared.draft.DraftExtension.{DraftExtension}
use Rattle.ext_draft.specs.declared.draft.DraftMethod.{DraftMethod}
use Rattle.ext_draft.specs.declared.draft.DraftProduce.{DraftProduce}
use Rattle.ext_draft.specs.declared.draft.DraftRecorder.{DraftRecorder}
use Rattle.ext_draft.specs.declared.draft.DraftStep.{DraftStep}
use Rattle.ext_draft.specs.declared.draft.Setting.{Setting}
use Rattle.name_index.specs.Place.{has}
use Rattle.ext_parser.specs.declared.fault.ProjectFault.{ProjectFault}
use Rattle.ext_parser.specs.declared.fault.ProjectFault.TheVariants.{Repeated, Unknown}
use Rattle.ext_parser.specs.declared.known.Known.{Known}
use Rattle.ext_parser.specs.declared.second_walk.Before.{Before}

-- nothing wrong, or the first fault
abbrev pub Checked : Type 0
Checked = Result (Unit {0}) ProjectFault

abbrev pub right : Checked
right = Ok tt

-- what follows, where nothing was wrong before
abbrev pub then : {A B : Type 0} → Result A ProjectFault → (A → Result B ProjectFault) → Result B ProjectFault
then (Ok x) next = next x
then (Err fault) next = Err fault

-- a text that may not be one of those before it
abbrev pub fresh : List ℕ → List (List ℕ) → List ℕ → Checked
fresh path before text = cond (has before text) (Err (Repeated path)) right

-- a text that may not be one of those before it, and has to be one of all
abbrev pub known_at : List (List ℕ) → List ℕ → List (List ℕ) → List ℕ → Checked
known_at all path before text = then (fresh path before text) (λ _. cond (has all text) right (Err (Unknown path)))

-- texts in a row from entry n on, none of which may stand there twice
abbrev pub all_fresh : List ℕ → ℕ → List (List ℕ) → List (List ℕ) → Checked
all_fresh path n before [] = right
all_fresh path n before (text ∷ texts) = then (fresh (nth path n) before text) (λ _. all_fresh path (suc n) (before ++ text ∷ []) texts)

-- texts in a row from entry n on, each of which has to be one of all and may not stand there twice
abbrev pub all_known : List (List ℕ) → List ℕ → ℕ → List (List ℕ) → List (List ℕ) → Checked
all_known all path n before [] = right
all_known all path n before (text ∷ texts) =
    then (known_at all (nth path n) before text) (λ _. all_known all path (suc n) (before ++ text ∷ []) texts)

-- things in a row from entry n on, each with its name after those before it, and then with what is in it
abbrev pub row : {A : Type 0} → (A → List ℕ) → (List ℕ → A → Checked) → List ℕ → ℕ → List (List ℕ) → List A → Checked
row name inner path n before [] = right
row name inner path n before (x ∷ xs) =
    then (fresh (inside (nth path n) ++ codes "name") before (name x)) (λ _.
    then (inner (inside (nth path n)) x) (λ _. row name inner path (suc n) (before ++ name x ∷ []) xs))

-- what has to be right in an item, a bean, a method, a recorder and a step
abbrev pub item_right : List ℕ → ItemDecl → Checked
item_right prefix i = right

abbrev pub bean_right : List ℕ → BeanDecl → Checked
bean_right prefix b = all_fresh (prefix ++ codes "fields") 0 [] b.fields

abbrev pub method_right : List ℕ → DraftMethod → Checked
method_right prefix m = all_fresh (prefix ++ codes "params") 0 [] m.params

abbrev pub recorder_right : List ℕ → DraftRecorder → Checked
recorder_right prefix r =
    then (all_fresh (prefix ++ codes "fields") 0 [] r.fields) (λ _.
    then (all_fresh (prefix ++ codes "statics") 0 [] r.statics) (λ _.
    row (λ (m : DraftMethod). m.name) method_right (prefix ++ codes "methods") 0 [] r.methods))

-- the conditions of a step
unfoldable pub conditions_right : Known → List ℕ → DraftStep → Checked
conditions_right known prefix s =
    then (all_known known.config (prefix ++ codes "only_if") 0 [] s.only_if) (λ _.
    all_known known.config (prefix ++ codes "only_if_not") 0 [] s.only_if_not)

abbrev pub step_right : Known → List ℕ → DraftStep → Checked
step_right known prefix s =
    then (all_known known.items (prefix ++ codes "consumes") 0 [] (map (λ (c : DraftConsume). c.item) s.consumes)) (λ _.
    then (all_known known.items (prefix ++ codes "produces") 0 [] (map (λ (p : DraftProduce). p.item) s.produces)) (λ _.
    conditions_right known prefix s))

abbrev pub item_names : List ItemDecl → List (List ℕ)
item_names items = map (λ (i : ItemDecl). i.name) items

abbrev pub bean_names : List BeanDecl → List (List ℕ)
bean_names beans = map (λ (b : BeanDecl). b.name) beans

abbrev pub recorder_names : List DraftRecorder → List (List ℕ)
recorder_names recorders = map (λ (r : DraftRecorder). r.name) recorders

-- an extension, after extensions, items, beans and recorders of these names
unfoldable pub extension_right : Known → List ℕ → Before → DraftExtension → Checked
extension_right known prefix before e =
    then (fresh (prefix ++ codes "name") before.extensions e.name) (λ _.
    then (row (λ (i : ItemDecl). i.name) item_right (prefix ++ codes "items") 0 before.items e.items) (λ _.
    then (row (λ (b : BeanDecl). b.name) bean_right (prefix ++ codes "beans") 0 before.beans e.beans) (λ _.
    then (row (λ (r : DraftRecorder). r.name) recorder_right (prefix ++ codes "recorders") 0 before.recorders e.recorders) (λ _.
    row (λ (s : DraftStep). s.name) (step_right known) (prefix ++ codes "steps") 0 [] e.steps))))

abbrev pub nothing_before : Before
nothing_before = record { extensions = []; items = []; beans = []; recorders = [] }

abbrev pub names_with : Before → DraftExtension → Before
names_with before e = record {
  extensions = before.extensions ++ e.name ∷ [];
  items = before.items ++ item_names e.items;
  beans = before.beans ++ bean_names e.beans;
  recorders = before.recorders ++ recorder_names e.recorders;
}

abbrev pub extensions_right : Known → ℕ → Before → List DraftExtension → Checked
extensions_right known n before [] = right
extensions_right known n before (e ∷ es) =
    then (extension_right known (inside (nth (codes "extensions") n)) before e) (λ _. extensions_right known (suc n) (names_with before e) es)

-- all items that the file declares
abbrev pub items_of : List DraftExtension → List ItemDecl
items_of es = flat_map (λ (e : DraftExtension). e.items) es

-- the names of all items, and the keys of `config`
abbrev pub known_of : Draft → Known
known_of d = record { items = item_names (items_of d.extensions); config = map (λ (s : Setting). s.name) d.config }

-- the extensions, and then `finals`
abbrev pub file_right : Draft → Checked
file_right d =
    then (extensions_right (known_of d) 0 nothing_before d.extensions) (λ _.
    all_known (known_of d).items (codes "finals") 0 [] d.finals)
