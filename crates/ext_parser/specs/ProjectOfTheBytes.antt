-- Project of the bytes: the project that a file's bytes write, or the first fault in them. This project's own.
use Rattle.std.specs.Prelude.{ℕ, List, map, Result, Ok, Err}
use Rattle.std.specs.List.{flat_map}
use Rattle.ext_draft.specs.DraftOfTheBytes.{draft}
use Rattle.ext_draft.specs.declared.draft.Draft.{Draft}
use Rattle.ext_draft.specs.declared.fault.DraftFault.{DraftFault}
use Rattle.ext_parser.specs.Declarations.{number, keys_on, steps_of, names_of}
use Rattle.ext_parser.specs.Faults.{fault_of}
use Rattle.ext_parser.specs.SecondWalk.{then, file_right, item_names, items_of}
use Rattle.ext_parser.specs.ThirdWalk.{texts_at}
use Rattle.ext_parser.specs.declared.fault.ProjectFault.{ProjectFault}
use Rattle.ext_parser.specs.declared.project.Project.{Project}
use Rattle.ext_parser.specs.declared.texts.Texts.{Texts}

-- the project that a file writes, where each name is found and each text is read
abbrev pub project_of : Draft → Texts → Project
project_of d texts =
    let items = item_names (items_of d.extensions) in
    record {
      app = d.app;
      major = d.major;
      names = names_of d.extensions;
      steps = flat_map (steps_of items (keys_on d.config)) d.extensions;
      finals = map (number items) d.finals;
      bodies = texts.bodies;
      methods = record { lists = texts.lists };
    }

-- the trees of its texts
abbrev pub texts_of : Draft → Result Texts ProjectFault
texts_of d = texts_at (names_of d.extensions) (item_names (items_of d.extensions)) (keys_on d.config) 0 0 d.extensions

-- the project of a draft, if the second walk and the third find no fault
abbrev pub project_of_draft : Result Draft DraftFault → Result Project ProjectFault
project_of_draft (Err fault) = Err (fault_of fault)
project_of_draft (Ok d) = then (file_right d) (λ _. then (texts_of d) (λ texts. Ok (project_of d texts)))

unfoldable pub project : List ℕ → Result Project ProjectFault
project bytes = project_of_draft (draft bytes)
