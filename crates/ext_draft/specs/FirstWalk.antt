-- The first walk over a project file: each table's keys in their order, lists in order. This project's own.
use Rattle.std.specs.Prelude.{ℕ, ℤ, pos, suc, ◌+◌, ◌≤◌, List, [], ◌∷◌, ◌++◌, length, cond, Option, Some, None, Result, Ok, codes}
use Rattle.std.specs.Ordering.{int_eq}
use Rattle.std.specs.Str.{bytes_eq}
use Rattle.toml.specs.Data.{Data, Items, no_items, item, Members, no_members, member, get_member, as_str, as_bool, as_table}
use Rattle.toml_keys.specs.Documents.{integer_at, key_count}
use Rattle.item_types.specs.declared.step.Phase.{Phase}
use Rattle.item_types.specs.declared.step.Phase.TheVariants.{Static, Runtime}
use Rattle.ext_draft.specs.Declarations.{item_in, bean_in, recorders_of, method_count}
use Rattle.ext_draft.specs.Entries.{item_part, words_part, optional_in, flags_in}
use Rattle.ext_draft.specs.Paths.{nth}
use Rattle.ext_draft.specs.Reading.{then, field, within, name, name_at, names_at, list_at, list_of, table_entry, body_at, without_others}
use Rattle.ext_draft.specs.declared.draft.Draft.{Draft}
use Rattle.ext_draft.specs.declared.draft.DraftConsume.{DraftConsume}
use Rattle.ext_draft.specs.declared.draft.DraftExtension.{DraftExtension}
use Rattle.ext_draft.specs.declared.draft.DraftProduce.{DraftProduce}
use Rattle.ext_draft.specs.declared.draft.DraftStep.{DraftStep}
use Rattle.ext_draft.specs.declared.draft.Format.{Format}
use Rattle.ext_draft.specs.declared.draft.Format.TheVariants.{One, Two}
use Rattle.ext_draft.specs.declared.draft.Setting.{Setting}
use Rattle.ext_draft.specs.declared.draft.Sums.{Sums}
use Rattle.ext_draft.specs.declared.fault.DraftFault.{DraftFault}

-- an entry of `consumes`, of `produces` and of `finals`
abbrev pub consume : List ℕ → Data → Result DraftConsume DraftFault
consume path value =
    then (field path (as_str value)) (λ text.
    then (field path (optional_in (words_part text))) (λ optional.
    then (name path (item_part text)) (λ item. Ok (record { item = item; optional = optional }))))

abbrev pub produce : List ℕ → Data → Result DraftProduce DraftFault
produce path value =
    then (field path (as_str value)) (λ text.
    then (field path (flags_in (words_part text))) (λ flags.
    then (name path (item_part text)) (λ item. Ok (record { item = item; flags = flags }))))

abbrev pub final : List ℕ → Data → Result (List ℕ) DraftFault
final path value = field path (as_str value)

-- `record`: `static` or `runtime`, none where the key is absent
abbrev pub phase_named : List ℕ → Option Phase
phase_named word = cond (bytes_eq word (codes "static")) (Some Static) (cond (bytes_eq word (codes "runtime")) (Some Runtime) None)

abbrev pub phase_at : List ℕ → Option Data → Result (Option Phase) DraftFault
phase_at path None = Ok None
phase_at path (Some value) = then (field path (as_str value)) (λ word. then (field path (phase_named word)) (λ phase. Ok (Some phase)))

abbrev pub step_keys : List (List ℕ)
step_keys =
    codes "name" ∷ codes "consumes" ∷ codes "produces" ∷ codes "record" ∷ codes "only_if" ∷ codes "only_if_not" ∷ codes "body" ∷ []

unfoldable pub step_in : List ℕ → Members → Result DraftStep DraftFault
step_in prefix table =
    then (name_at prefix table (codes "name")) (λ own_name.
    then (list_of consume 64 0 prefix table (codes "consumes")) (λ consumes.
    then (list_of produce 64 0 prefix table (codes "produces")) (λ produces.
    then (phase_at (prefix ++ codes "record") (get_member (codes "record") table)) (λ phase.
    then (names_at 64 prefix table (codes "only_if")) (λ only_if.
    then (names_at 64 prefix table (codes "only_if_not")) (λ only_if_not.
    then (body_at (prefix ++ codes "body") (get_member (codes "body") table)) (λ body.
    without_others step_keys prefix table (record {
      name = own_name;
      consumes = consumes;
      produces = produces;
      phase = phase;
      only_if = only_if;
      only_if_not = only_if_not;
      body = body;
    }))))))))

abbrev pub extension_keys : List (List ℕ)
extension_keys = codes "name" ∷ codes "items" ∷ codes "beans" ∷ codes "recorders" ∷ codes "steps" ∷ []

-- an extension, after extensions with so many things of each kind
unfoldable pub extension_in : Sums → List ℕ → Members → Result DraftExtension DraftFault
extension_in sums prefix table =
    then (name_at prefix table (codes "name")) (λ own_name.
    then (list_of (table_entry item_in) 2048 sums.items prefix table (codes "items")) (λ items.
    then (list_of (table_entry bean_in) 1024 sums.beans prefix table (codes "beans")) (λ beans.
    then (recorders_of sums.recorders sums.methods prefix table) (λ recorders.
    then (list_of (table_entry step_in) 2048 sums.steps prefix table (codes "steps")) (λ steps.
    without_others extension_keys prefix table (record { name = own_name; items = items; beans = beans; recorders = recorders; steps = steps }))))))

abbrev pub no_sums : Sums
no_sums = record { items = 0; beans = 0; recorders = 0; methods = 0; steps = 0 }

abbrev pub sums_with : Sums → DraftExtension → Sums
sums_with sums e = record {
  items = sums.items + length e.items;
  beans = sums.beans + length e.beans;
  recorders = sums.recorders + length e.recorders;
  methods = sums.methods + method_count e.recorders;
  steps = sums.steps + length e.steps;
}

-- no limit on what the whole file has is passed
pub record IsWithin (sums : Sums) : Type 0 where
  pub items : sums.items ≤ 2048
  pub beans : sums.beans ≤ 1024
  pub recorders : sums.recorders ≤ 256
  pub methods : sums.methods ≤ 1024
  pub steps : sums.steps ≤ 2048

-- the extensions of a list from entry n on
abbrev pub extensions_at : Sums → List ℕ → ℕ → Items → Result (List DraftExtension) DraftFault
extensions_at sums path n no_items = Ok []
extensions_at sums path n (item value rest) =
    then (table_entry (extension_in sums) (nth path n) value) (λ e.
    then (extensions_at (sums_with sums e) path (suc n) rest) (λ es. Ok (e ∷ es)))

abbrev pub extensions_of : Members → Result (List DraftExtension) DraftFault
extensions_of table =
    then (list_at 256 0 (codes "extensions") (get_member (codes "extensions") table)) (extensions_at no_sums (codes "extensions") 0)

-- `config`: keys in byte order, each a name, and truth values
abbrev pub setting_at : List ℕ → List ℕ → Data → Result Setting DraftFault
setting_at path key value = then (name path key) (λ own_name. then (field path (as_bool value)) (λ on. Ok (record { name = own_name; on = on })))

abbrev pub settings_at : ℕ → Members → Result (List Setting) DraftFault
settings_at n no_members = Ok []
settings_at n (member key value rest) =
    then (setting_at (nth (codes "config") n) key value) (λ s. then (settings_at (suc n) rest) (λ more. Ok (s ∷ more)))

abbrev pub config_at : Option Data → Result (List Setting) DraftFault
config_at None = Ok []
config_at (Some value) =
    then (field (codes "config") (as_table value)) (λ table. then (within 1024 (codes "config") (key_count table) table) (settings_at 0))

-- `format`, 1 or 2
abbrev pub format_of : Option ℤ → Option Format
format_of None = None
format_of (Some z) = cond (int_eq z (pos 1)) (Some One) (cond (int_eq z (pos 2)) (Some Two) None)

-- the class file version: 61 for format 1 and for `java` 17, 65 for `java` 21 (JVMS 4.1)
abbrev pub java_major : Option ℤ → Option ℕ
java_major None = None
java_major (Some z) = cond (int_eq z (pos 17)) (Some 61) (cond (int_eq z (pos 21)) (Some 65) None)

abbrev pub major_of : Format → Members → Result ℕ DraftFault
major_of One table = Ok 61
major_of Two table = field (codes "java") (java_major (integer_at (codes "java") table))

abbrev pub file_keys : Format → List (List ℕ)
file_keys One = codes "format" ∷ codes "app" ∷ codes "config" ∷ codes "finals" ∷ codes "extensions" ∷ []
file_keys Two = codes "format" ∷ codes "app" ∷ codes "java" ∷ codes "config" ∷ codes "finals" ∷ codes "extensions" ∷ []

abbrev pub file : Members → Result Draft DraftFault
file table =
    then (field (codes "format") (format_of (integer_at (codes "format") table))) (λ format.
    then (name_at [] table (codes "app")) (λ app.
    then (major_of format table) (λ major.
    then (config_at (get_member (codes "config") table)) (λ config.
    then (list_of final 2048 0 [] table (codes "finals")) (λ finals.
    then (extensions_of table) (λ extensions.
    without_others (file_keys format) [] table (record { app = app; major = major; config = config; finals = finals; extensions = extensions })))))))
