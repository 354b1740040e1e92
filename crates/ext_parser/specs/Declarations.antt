-- What a draft declares once its names were found: numbers in place of items, and which steps are active. This project's own.
use Rattle.std.specs.Prelude.{ℕ, List, [], ◌∷◌, map, Bool, not, cond, ◌&&◌, unwrap_or}
use Rattle.std.specs.List.{flat_map, list_all}
use Rattle.item_types.specs.declared.decl.BeanDecl.{BeanDecl}
use Rattle.item_types.specs.declared.decl.MethodSig.{MethodSig}
use Rattle.item_types.specs.declared.decl.Names.{Names}
use Rattle.item_types.specs.declared.decl.RecorderDecl.{RecorderDecl}
use Rattle.item_types.specs.declared.step.Consume.{Consume}
use Rattle.item_types.specs.declared.step.Produce.{Produce}
use Rattle.item_types.specs.declared.step.StepDecl.{StepDecl}
use Rattle.ext_draft.specs.declared.draft.DraftConsume.{DraftConsume}
use Rattle.ext_draft.specs.declared.draft.DraftExtension.{DraftExtension}
use Rattle.ext_draft.specs.declared.draft.DraftMethod.{DraftMethod}
use Rattle.ext_draft.specs.declared.draft.DraftProduce.{DraftProduce}
use Rattle.ext_draft.specs.declared.draft.DraftRecorder.{DraftRecorder}
use Rattle.ext_draft.specs.declared.draft.DraftStep.{DraftStep}
use Rattle.ext_draft.specs.declared.draft.Setting.{Setting}
use Rattle.name_index.specs.Place.{place, has}
use Rattle.ext_parser.specs.SecondWalk.{items_of}

-- an item's number: its place among all items of the file
abbrev pub number : List (List ℕ) → List ℕ → ℕ
number items text = unwrap_or (place items text) 0

abbrev pub consume_of : List (List ℕ) → DraftConsume → Consume
consume_of items c = record { item = number items c.item; optional = c.optional }

abbrev pub produce_of : List (List ℕ) → DraftProduce → Produce
produce_of items p = record { item = number items p.item; weak = p.flags.weak; overridable = p.flags.overridable }

-- the keys of `config` that are true
abbrev pub keys_on : List Setting → List (List ℕ)
keys_on [] = []
keys_on (s ∷ settings) = cond s.on (s.name ∷ keys_on settings) (keys_on settings)

-- each key of `only_if` is true, and each of `only_if_not` isn't
abbrev pub is_active : List (List ℕ) → DraftStep → Bool
is_active on s = list_all (has on) s.only_if && list_all (λ key. not (has on key)) s.only_if_not

-- a step of the extension of that name
abbrev pub step_of : List (List ℕ) → List (List ℕ) → List ℕ → DraftStep → StepDecl
step_of items on extension s = record {
  ext = extension;
  name = s.name;
  consumes = map (consume_of items) s.consumes;
  produces = map (produce_of items) s.produces;
  phase = s.phase;
  active = is_active on s;
}

abbrev pub steps_of : List (List ℕ) → List (List ℕ) → DraftExtension → List StepDecl
steps_of items on e = map (step_of items on e.name) e.steps

abbrev pub method_of : DraftMethod → MethodSig
method_of m = record { name = m.name; params = m.params }

abbrev pub recorder_of : DraftRecorder → RecorderDecl
recorder_of r = record { name = r.name; fields = r.fields; statics = r.statics; methods = map method_of r.methods }

abbrev pub beans_of : List DraftExtension → List BeanDecl
beans_of es = flat_map (λ (e : DraftExtension). e.beans) es

abbrev pub recorders_of : List DraftExtension → List RecorderDecl
recorders_of es = flat_map (λ (e : DraftExtension). map recorder_of e.recorders) es

-- all that the extensions declare
abbrev pub names_of : List DraftExtension → Names
names_of es = record { items = items_of es; beans = beans_of es; recorders = recorders_of es }
