-- The project of a draft, part by part.
use Rattle.std.proofs.Common.{◌≡◌, ◌⊎◌, ◌∙◌, inl, inr, ap, sym, ℕ, List, map, Result, Ok, Err}
use Rattle.std.specs.List.{flat_map}
use Rattle.item_types.specs.declared.decl.Names.{Names}
use Rattle.item_types.specs.declared.step.StepDecl.{StepDecl}
use Rattle.ext_draft.specs.declared.draft.Draft.{Draft}
use Rattle.ext_parser.specs.Declarations.{number, keys_on, names_of, steps_of}
use Rattle.ext_parser.specs.ProjectOfTheBytes.{project_of, texts_of}
use Rattle.ext_parser.specs.SecondWalk.{then, item_names, items_of}
use Rattle.ext_parser.specs.ThirdWalk.{texts_at}
use Rattle.ext_parser.specs.declared.fault.ProjectFault.{ProjectFault}
use Rattle.ext_parser.specs.declared.fault.ProjectFault.TheVariants.{Memory}
use Rattle.ext_parser.specs.declared.project.Project.{Project}
use Rattle.ext_parser.specs.declared.texts.Texts.{Texts}

pub texts_are : (d : Draft) (names : Names) (items on : List (List ℕ)) → names ≡ names_of d.extensions → items ≡ item_names (items_of d.extensions) → on ≡ keys_on d.config
    → texts_at names items on 0 0 d.extensions ≡ texts_of d
texts_are d names items on names-are items-are on-are = λ i. texts_at (names-are i) (items-are i) (on-are i) 0 0 d.extensions

read-texts : (read : Result Texts ProjectFault) (texts : Texts) → (◌≡◌ {A = Result Texts ProjectFault} (Ok texts) (Err Memory)) ⊎ (Ok texts ≡ read) → read ≡ Ok texts
read-texts read texts is = elim is [ inl wanted ↦ cc | inr found ↦ sym found ]

pub whole : (d : Draft) (items on : List (List ℕ)) (app : List ℕ) (names : Names) (texts : Texts) (steps : List StepDecl) (finals : List ℕ)
    → items ≡ item_names (items_of d.extensions) → on ≡ keys_on d.config → app ≡ d.app → names ≡ names_of d.extensions
    → (◌≡◌ {A = Result Texts ProjectFault} (Ok texts) (Err Memory)) ⊎ (Ok texts ≡ texts_of d)
    → steps ≡ flat_map (steps_of items on) d.extensions → finals ≡ map (number items) d.finals
    → ◌≡◌ {A = Result Project ProjectFault}
    (Ok (record { app = app; major = d.major; names = names; steps = steps; finals = finals; bodies = texts.bodies; methods = record { lists = texts.lists } }))
    (then (texts_of d) (λ t. Ok (project_of d t)))
whole d items on app names texts steps finals items-are on-are app-is names-are texts-are steps-are finals-are =
    let all_steps : steps ≡ flat_map (steps_of (item_names (items_of d.extensions)) (keys_on d.config)) d.extensions
    = steps-are ∙ ap (λ (ns : List (List ℕ)). flat_map (steps_of ns on) d.extensions) items-are
    ∙ ap (λ (ns : List (List ℕ)). flat_map (steps_of (item_names (items_of d.extensions)) ns) d.extensions) on-are in
    let all_finals : finals ≡ map (number (item_names (items_of d.extensions))) d.finals
    = finals-are ∙ ap (λ (ns : List (List ℕ)). map (number ns) d.finals) items-are in
    let same : ◌≡◌ {A = Project}
    (record { app = app; major = d.major; names = names; steps = steps; finals = finals; bodies = texts.bodies; methods = record { lists = texts.lists } })
    (project_of d texts)
    = λ i. record { app = app-is i; major = d.major; names = names-are i; steps = all_steps i; finals = all_finals i; bodies = texts.bodies; methods = record { lists = texts.lists } } in
    ap (λ (p : Project). Ok p) same
    ∙ ap (λ (r : Result Texts ProjectFault). then r (λ t. Ok (project_of d t))) (sym (read-texts (texts_of d) texts texts-are))
