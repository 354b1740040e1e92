-- What was read without a fault is right: names are names, and lists are as short as they have to be.
use Rattle.std.proofs.Common.{◌≡◌, ◌≤◌, ◌+◌, ◌++◌, ◌∙◌, ℕ, suc, ap, sym, subst, refl, arith, Bool, true, false, cond, List, [], ◌∷◌, length, map, Option, Some, None, Result, Ok, Err}
use Rattle.std.specs.List.{All}
use Rattle.std.specs.Prelude.{codes, IsTrue}
use Rattle.std.specs.Str.{bytes_eq}
use Rattle.std.proofs.lemmas.List.Elements.{All-cons, All-nil}
use Rattle.toml.specs.Data.{Data, Items, no_items, item, Members, no_members, member, get_member, as_str, as_bool, as_table}
use Rattle.toml_keys.specs.Documents.{text_at, key_count}
use Rattle.item_types.specs.declared.decl.BeanDecl.{BeanDecl}
use Rattle.item_types.specs.declared.decl.ItemDecl.{ItemDecl}
use Rattle.item_types.specs.declared.decl.ItemKind.{ItemKind}
use Rattle.item_types.specs.declared.decl.ItemKind.TheVariants.{Simple, Multi, Ordered, Empty}
use Rattle.ext_draft.specs.Declarations.{key_refused, kind_of, item_in, item_keys, bean_in, bean_keys, method_in, method_keys, recorder_in, recorder_keys, recorders_at, recorders_of}
use Rattle.ext_draft.specs.FirstWalk.{consume, produce, phase_at, step_in, step_keys, extension_in, extensions_at, sums_with, setting_at, settings_at, config_at, IsWithin}
use Rattle.ext_draft.specs.Limits.{IsName, AreNames, IsRightKind, IsRightItem, IsRightBean, IsRightMethod, IsRightRecorder, IsRightStep, IsRightExtension}
use Rattle.ext_draft.specs.Names.{is_name}
use Rattle.ext_draft.specs.Paths.{nth, inside}
use Rattle.ext_draft.specs.Reading.{then, field, within, name, name_at, name_entry, names_at, body_at, list_at, entries_at, list_of, table_entry}
use Rattle.ext_draft.specs.declared.draft.DraftConsume.{DraftConsume}
use Rattle.ext_draft.specs.declared.draft.DraftExtension.{DraftExtension}
use Rattle.ext_draft.specs.declared.draft.DraftMethod.{DraftMethod}
use Rattle.ext_draft.specs.declared.draft.DraftProduce.{DraftProduce}
use Rattle.ext_draft.specs.declared.draft.DraftRecorder.{DraftRecorder}
use Rattle.ext_draft.specs.declared.draft.DraftStep.{DraftStep}
use Rattle.ext_draft.specs.declared.draft.Setting.{Setting}
use Rattle.ext_draft.specs.declared.draft.Sums.{Sums}
use Rattle.ext_draft.specs.declared.fault.DraftFault.{DraftFault}
use Rattle.ext_draft.specs.declared.fault.DraftFault.TheVariants.{Field, Name}
use Rattle.ext_draft.proofs.Bounds.{then-ok, others-ok, within-ok, list_of-few, entry-ok, recorder-few, extension-read, extension-within, IsRead}

name-by : (b : Bool) (path text x : List ℕ) → ◌≡◌ {A = Result (List ℕ) DraftFault} (cond b (Ok text) (Err (Name path))) (Ok x) → IsTrue b × (text ≡ x)
name-by true path text x is = (refl, cc)
name-by false path text x is = cc

name-ok : (path text x : List ℕ) → name path text ≡ Ok x → IsName x
name-ok path text x is = let read = name-by (is_name text) path text x is in subst IsName read.1 read.0

pub name_at-ok : (prefix : List ℕ) (table : Members) (key x : List ℕ) → name_at prefix table key ≡ Ok x → IsName x
name_at-ok prefix table key x is =
    let read = then-ok (field (prefix ++ key) (text_at key table)) (name (prefix ++ key)) x is in
    name-ok (prefix ++ key) read.0 x read.2

name_entry-ok : (path : List ℕ) (value : Data) (x : List ℕ) → name_entry path value ≡ Ok x → IsName x
name_entry-ok path value x is =
    let read = then-ok (field path (as_str value)) (name path) x is in
    name-ok path read.0 x read.2

entries-all : {A : Type 0} (P : A → Type 0) (read : List ℕ → Data → Result A DraftFault) → ((path : List ℕ) (value : Data) (x : A) → read path value ≡ Ok x → P x)
    → (path : List ℕ) (n : ℕ) (entries : Items) (xs : List A) → entries_at read path n entries ≡ Ok xs → All P xs
entries-all {A} P read each path n no_items xs is = let e : ◌≡◌ {A = List A} [] xs = cc in subst (All P) e (All-nil P)
entries-all {A} P read each path n (item value rest) xs is =
    let first = then-ok (read (nth path n) value) (λ x. then (entries_at read path (suc n) rest) (λ more. Ok (x ∷ more))) xs is in
    let others = then-ok (entries_at read path (suc n) rest) (λ more. Ok (first.0 ∷ more)) xs first.2 in
    let e : first.0 ∷ others.0 ≡ xs = cc (others.2) in
    subst (All P) e (All-cons P first.0 others.0 (each (nth path n) value first.0 first.1) (entries-all P read each path (suc n) rest others.0 others.1))

pub list_of-all : {A : Type 0} (P : A → Type 0) (read : List ℕ → Data → Result A DraftFault) → ((path : List ℕ) (value : Data) (x : A) → read path value ≡ Ok x → P x)
    → (limit before : ℕ) (prefix : List ℕ) (table : Members) (key : List ℕ) (xs : List A) → list_of read limit before prefix table key ≡ Ok xs → All P xs
list_of-all P read each limit before prefix table key xs is =
    let listed = then-ok (list_at limit before (prefix ++ key) (get_member key table)) (entries_at read (prefix ++ key) 0) xs is in
    entries-all P read each (prefix ++ key) 0 listed.0 xs listed.2

names_at-ok : (limit : ℕ) (prefix : List ℕ) (table : Members) (key : List ℕ) (xs : List (List ℕ)) → names_at limit prefix table key ≡ Ok xs → AreNames limit xs
names_at-ok limit prefix table key xs is = record {
  right = list_of-all IsName name_entry name_entry-ok limit 0 prefix table key xs is;
  few = omega (arith, list_of-few name_entry limit 0 prefix table key xs is (omega arith));
}

table-each : {A : Type 0} (P : A → Type 0) (read : List ℕ → Members → Result A DraftFault) → ((prefix : List ℕ) (table : Members) (x : A) → read prefix table ≡ Ok x → P x)
    → (path : List ℕ) (value : Data) (x : A) → table_entry read path value ≡ Ok x → P x
table-each P read each path value x is = let found = entry-ok read path value x is in each (inside path) found.0 x found.1

body_at-few : (path : List ℕ) (value : Option Data) (x : List ℕ) → body_at path value ≡ Ok x → length x ≤ 65535
body_at-few path None x is = let e : ◌≡◌ {A = List ℕ} [] x = cc in omega (arith, ap length e)
body_at-few path (Some value) x is =
    let read = then-ok (field path (as_str value)) (λ text. within 65535 path (length text) text) x is in
    let fits = within-ok 65535 path (length read.0) read.0 x read.2 in
    omega (arith, fits.0, ap length fits.1)

refused-kind : (path : List ℕ) (value : Option Data) (kind found : ItemKind) → IsRightKind kind → key_refused path value kind ≡ Ok found → IsRightKind found
refused-kind path None kind found right is = let e : kind ≡ found = cc in subst IsRightKind e right
refused-kind path (Some value) kind found right is = cc

ordered-kind : (prefix : List ℕ) (table : Members) (found : ItemKind) → then (name_at prefix table (codes "key")) (λ by. Ok (Ordered by)) ≡ Ok found → IsRightKind found
ordered-kind prefix table found is =
    let read = then-ok (name_at prefix table (codes "key")) (λ by. Ok (Ordered by)) found is in
    let e : Ordered read.0 ≡ found = cc (read.2) in
    subst IsRightKind e (name_at-ok prefix table (codes "key") read.0 read.1)

kind-by : (simple multi ordered empty : Bool) (path : List ℕ) (value : Option Data) (prefix : List ℕ) (table : Members) (found : ItemKind)
    → cond simple (key_refused path value Simple) (cond multi (key_refused path value Multi) (cond ordered (then (name_at prefix table (codes "key")) (λ by. Ok (Ordered by)))
    (cond empty (key_refused path value Empty) (Err (Field (prefix ++ codes "kind")))))) ≡ Ok found
    → IsRightKind found
kind-by true multi ordered empty path value prefix table found is = refused-kind path value Simple found tt is
kind-by false true ordered empty path value prefix table found is = refused-kind path value Multi found tt is
kind-by false false true empty path value prefix table found is = ordered-kind prefix table found is
kind-by false false false true path value prefix table found is = refused-kind path value Empty found tt is
kind-by false false false false path value prefix table found is = cc

right-item : (prefix : List ℕ) (table : Members) (i : ItemDecl) → item_in prefix table ≡ Ok i → IsRightItem i
right-item prefix table i is =
    let named = then-ok (name_at prefix table (codes "name")) _ i is in
    let word = then-ok (field (prefix ++ codes "kind") (text_at (codes "kind") table)) _ i named.2 in
    let kind = then-ok (kind_of prefix table word.0) _ i word.2 in
    let whole = others-ok item_keys prefix table _ i kind.2 in
    subst IsRightItem whole (record {
      name = name_at-ok prefix table (codes "name") named.0 named.1;
      kind = kind-by (bytes_eq word.0 (codes "simple")) (bytes_eq word.0 (codes "multi")) (bytes_eq word.0 (codes "ordered")) (bytes_eq word.0 (codes "empty"))
          (prefix ++ codes "key") (get_member (codes "key") table) prefix table kind.0 kind.1;
    })

right-bean : (prefix : List ℕ) (table : Members) (b : BeanDecl) → bean_in prefix table ≡ Ok b → IsRightBean b
right-bean prefix table b is =
    let named = then-ok (name_at prefix table (codes "name")) _ b is in
    let fields = then-ok (names_at 16 prefix table (codes "fields")) _ b named.2 in
    let whole = others-ok bean_keys prefix table _ b fields.2 in
    subst IsRightBean whole (record {
      name = name_at-ok prefix table (codes "name") named.0 named.1;
      fields = names_at-ok 16 prefix table (codes "fields") fields.0 fields.1;
    })

right-method : (prefix : List ℕ) (table : Members) (m : DraftMethod) → method_in prefix table ≡ Ok m → IsRightMethod m
right-method prefix table m is =
    let named = then-ok (name_at prefix table (codes "name")) _ m is in
    let params = then-ok (names_at 8 prefix table (codes "params")) _ m named.2 in
    let body = then-ok (body_at (prefix ++ codes "body") (get_member (codes "body") table)) _ m params.2 in
    let whole = others-ok method_keys prefix table _ m body.2 in
    subst IsRightMethod whole (record {
      name = name_at-ok prefix table (codes "name") named.0 named.1;
      params = names_at-ok 8 prefix table (codes "params") params.0 params.1;
      body = body_at-few (prefix ++ codes "body") (get_member (codes "body") table) body.0 body.1;
    })

right-recorder : (before : ℕ) → before ≤ 1024 → (prefix : List ℕ) (table : Members) (r : DraftRecorder) → recorder_in before prefix table ≡ Ok r → IsRightRecorder r
right-recorder before low prefix table r is =
    let named = then-ok (name_at prefix table (codes "name")) _ r is in
    let fields = then-ok (names_at 16 prefix table (codes "fields")) _ r named.2 in
    let statics = then-ok (names_at 16 prefix table (codes "statics")) _ r fields.2 in
    let methods = then-ok (list_of (table_entry method_in) 1024 before prefix table (codes "methods")) _ r statics.2 in
    let few = list_of-few (table_entry method_in) 1024 before prefix table (codes "methods") methods.0 methods.1 low in
    let whole = others-ok recorder_keys prefix table _ r methods.2 in
    subst IsRightRecorder whole (record {
      name = name_at-ok prefix table (codes "name") named.0 named.1;
      fields = names_at-ok 16 prefix table (codes "fields") fields.0 fields.1;
      statics = names_at-ok 16 prefix table (codes "statics") statics.0 statics.1;
      methods = list_of-all IsRightMethod (table_entry method_in) (table-each IsRightMethod method_in right-method) 1024 before prefix table (codes "methods") methods.0 methods.1;
      few = omega (arith, few);
    })

right-recorders : (before : ℕ) (path : List ℕ) (n : ℕ) (entries : Items) (rs : List DraftRecorder) → recorders_at before path n entries ≡ Ok rs → before ≤ 1024 → All IsRightRecorder rs
right-recorders before path n no_items rs is low = let e : ◌≡◌ {A = List DraftRecorder} [] rs = cc in subst (All IsRightRecorder) e (All-nil IsRightRecorder)
right-recorders before path n (item value rest) rs is low =
    let first = then-ok (table_entry (recorder_in before) (nth path n) value) _ rs is in
    let table = entry-ok (recorder_in before) (nth path n) value first.0 first.1 in
    let others = then-ok (recorders_at (before + length first.0.methods) path (suc n) rest) _ rs first.2 in
    let e : ◌≡◌ {A = List DraftRecorder} (first.0 ∷ others.0) rs = cc (others.2) in
    subst (All IsRightRecorder) e
    (All-cons IsRightRecorder first.0 others.0
    (right-recorder before low (inside (nth path n)) table.0 first.0 table.1)
    (right-recorders (before + length first.0.methods) path (suc n) rest others.0 others.1 (recorder-few before (inside (nth path n)) table.0 first.0 table.1 low)))

right-step : (prefix : List ℕ) (table : Members) (s : DraftStep) → step_in prefix table ≡ Ok s → IsRightStep s
unfolding step_in
right-step prefix table s is =
    let named = then-ok (name_at prefix table (codes "name")) _ s is in
    let consumes = then-ok (list_of consume 64 0 prefix table (codes "consumes")) _ s named.2 in
    let produces = then-ok (list_of produce 64 0 prefix table (codes "produces")) _ s consumes.2 in
    let phase = then-ok (phase_at (prefix ++ codes "record") (get_member (codes "record") table)) _ s produces.2 in
    let only_if = then-ok (names_at 64 prefix table (codes "only_if")) _ s phase.2 in
    let only_if_not = then-ok (names_at 64 prefix table (codes "only_if_not")) _ s only_if.2 in
    let body = then-ok (body_at (prefix ++ codes "body") (get_member (codes "body") table)) _ s only_if_not.2 in
    let whole = others-ok step_keys prefix table _ s body.2 in
    subst IsRightStep whole (record {
      name = name_at-ok prefix table (codes "name") named.0 named.1;
      consumes = omega (arith, list_of-few consume 64 0 prefix table (codes "consumes") consumes.0 consumes.1 (omega arith));
      produces = omega (arith, list_of-few produce 64 0 prefix table (codes "produces") produces.0 produces.1 (omega arith));
      only_if = names_at-ok 64 prefix table (codes "only_if") only_if.0 only_if.1;
      only_if_not = names_at-ok 64 prefix table (codes "only_if_not") only_if_not.0 only_if_not.1;
      body = body_at-few (prefix ++ codes "body") (get_member (codes "body") table) body.0 body.1;
    })

right-extension : (sums : Sums) → IsWithin sums → (prefix : List ℕ) (table : Members) (e : DraftExtension) → extension_in sums prefix table ≡ Ok e → IsRightExtension e
right-extension sums before prefix table e is =
    let read = extension-read sums prefix table e is in
    let recorders = then-ok (list_at 256 sums.recorders (prefix ++ codes "recorders") (get_member (codes "recorders") table)) (recorders_at sums.methods (prefix ++ codes "recorders") 0) e.recorders read.recorders in
    record {
      name = name_at-ok prefix table (codes "name") e.name read.name;
      items = list_of-all IsRightItem (table_entry item_in) (table-each IsRightItem item_in right-item) 2048 sums.items prefix table (codes "items") e.items read.items;
      beans = list_of-all IsRightBean (table_entry bean_in) (table-each IsRightBean bean_in right-bean) 1024 sums.beans prefix table (codes "beans") e.beans read.beans;
      recorders = right-recorders sums.methods (prefix ++ codes "recorders") 0 recorders.0 e.recorders recorders.2 before.methods;
      steps = list_of-all IsRightStep (table_entry step_in) (table-each IsRightStep step_in right-step) 2048 sums.steps prefix table (codes "steps") e.steps read.steps;
    }

pub right-extensions : (sums : Sums) (path : List ℕ) (n : ℕ) (entries : Items) (es : List DraftExtension) → extensions_at sums path n entries ≡ Ok es → IsWithin sums → All IsRightExtension es
right-extensions sums path n no_items es is before = let e : ◌≡◌ {A = List DraftExtension} [] es = cc in subst (All IsRightExtension) e (All-nil IsRightExtension)
right-extensions sums path n (item value rest) es is before =
    let first = then-ok (table_entry (extension_in sums) (nth path n) value) _ es is in
    let table = entry-ok (extension_in sums) (nth path n) value first.0 first.1 in
    let others = then-ok (extensions_at (sums_with sums first.0) path (suc n) rest) _ es first.2 in
    let e : ◌≡◌ {A = List DraftExtension} (first.0 ∷ others.0) es = cc (others.2) in
    subst (All IsRightExtension) e
    (All-cons IsRightExtension first.0 others.0
    (right-extension sums before (inside (nth path n)) table.0 first.0 table.1)
    (right-extensions (sums_with sums first.0) path (suc n) rest others.0 others.1 (extension-within sums (inside (nth path n)) table.0 first.0 table.1 before)))

-- as many settings as keys, and each key is a name
record AreSettings (table : Members) (settings : List Setting) : Type 0 where
  right : All IsName (map (λ (s : Setting). s.name) settings)
  many : length (map (λ (s : Setting). s.name) settings) ≡ key_count table

setting-ok : (path key : List ℕ) (value : Data) (s : Setting) → setting_at path key value ≡ Ok s → IsName s.name
setting-ok path key value s is =
    let named = then-ok (name path key) _ s is in
    let on = then-ok (field path (as_bool value)) _ s named.2 in
    let e : ◌≡◌ {A = Setting} (record { name = named.0; on = on.0 }) s = cc (on.2) in
    subst (λ (x : Setting). IsName x.name) e (name-ok path key named.0 named.1)

settings-ok : (n : ℕ) (table : Members) (settings : List Setting) → settings_at n table ≡ Ok settings → AreSettings table settings
settings-ok n no_members settings is =
    let e : ◌≡◌ {A = List Setting} [] settings = cc in
    subst (AreSettings no_members) e (record { right = All-nil IsName; many = refl })
settings-ok n (member key value rest) settings is =
    let first = then-ok (setting_at (nth (codes "config") n) key value) _ settings is in
    let others = then-ok (settings_at (suc n) rest) _ settings first.2 in
    let e : ◌≡◌ {A = List Setting} (first.0 ∷ others.0) settings = cc (others.2) in
    let ih = settings-ok (suc n) rest others.0 others.1 in
    subst (AreSettings (member key value rest)) e (record {
      right = All-cons IsName first.0.name (map (λ (s : Setting). s.name) others.0) (setting-ok (nth (codes "config") n) key value first.0 first.1) ih.right;
      many = omega (arith, ih.many);
    })

pub config-ok : (value : Option Data) (settings : List Setting) → config_at value ≡ Ok settings → AreNames 1024 (map (λ (s : Setting). s.name) settings)
config-ok None settings is =
    let e : ◌≡◌ {A = List Setting} [] settings = cc in
    subst (λ (xs : List Setting). AreNames 1024 (map (λ (s : Setting). s.name) xs)) e (record { right = All-nil IsName; few = omega arith })
config-ok (Some value) settings is =
    let table = then-ok (field (codes "config") (as_table value)) _ settings is in
    let fits = then-ok (within 1024 (codes "config") (key_count table.0) table.0) (settings_at 0) settings table.2 in
    let few = within-ok 1024 (codes "config") (key_count table.0) table.0 fits.0 fits.1 in
    let read = settings-ok 0 fits.0 settings fits.2 in
    record { right = read.right; few = omega (arith, few.0, read.many, ap key_count few.1) }
