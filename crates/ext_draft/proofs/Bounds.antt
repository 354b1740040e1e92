-- How many things of each kind a file that was read has.
use Rattle.std.proofs.Common.{◌≡◌, ◌⊎◌, inl, inr, ◌≤◌, ◌+◌, ◌++◌, ℕ, suc, ap, sym, subst, refl, arith, List, [], ◌∷◌, length, Option, Some, None, Result, Ok, Err, IfOk}
use Rattle.std.specs.Prelude.{codes}
use Rattle.std.proofs.lemmas.Bool.Decides.{leb_tells}
use Rattle.toml.specs.Data.{Data, Items, no_items, item, Members, get_member, as_array, as_table}
use Rattle.toml_keys.specs.Documents.{count, other_key}
use Rattle.ext_draft.specs.Declarations.{item_in, bean_in, method_in, recorder_in, recorder_keys, recorders_at, recorders_of, method_count}
use Rattle.ext_draft.specs.FirstWalk.{extension_in, extension_keys, sums_with, step_in, IsWithin}
use Rattle.ext_draft.specs.Paths.{nth, inside, key_text}
use Rattle.ext_draft.specs.Reading.{then, field, within, name_at, names_at, list_at, entries_at, list_of, table_entry, without_others}
use Rattle.ext_draft.specs.declared.draft.DraftExtension.{DraftExtension}
use Rattle.ext_draft.specs.declared.draft.DraftRecorder.{DraftRecorder}
use Rattle.ext_draft.specs.declared.draft.Sums.{Sums}
use Rattle.ext_draft.specs.declared.fault.DraftFault.{DraftFault}
use Rattle.ext_draft.specs.declared.fault.DraftFault.TheVariants.{Memory, Field, Limit}

-- a reading that ended well did each of its parts well
pub then-ok : {A B : Type 0} (r : Result A DraftFault) (next : A → Result B DraftFault) (y : B) → then r next ≡ Ok y → (x : A) × (r ≡ Ok x) × (next x ≡ Ok y)
then-ok (Ok x) next y is = (x, refl, is)
then-ok (Err fault) next y is = cc

others-of : {A : Type 0} (prefix : List ℕ) (found : Option (List ℕ)) (x y : A)
    → ◌≡◌ {A = Result A DraftFault} (elim found [ Some key ↦ Err (Field (prefix ++ key_text key)) | None ↦ Ok x ]) (Ok y) → x ≡ y
others-of prefix None x y is = cc
others-of prefix (Some key) x y is = cc

pub others-ok : {A : Type 0} (own : List (List ℕ)) (prefix : List ℕ) (table : Members) (x y : A) → without_others own prefix table x ≡ Ok y → x ≡ y
others-ok own prefix table x y is = others-of prefix (other_key own table) x y is

pub entries_at-length : {A : Type 0} (read : List ℕ → Data → Result A DraftFault) (path : List ℕ) (n : ℕ) (entries : Items) (xs : List A)
    → entries_at read path n entries ≡ Ok xs → length xs ≡ count entries
entries_at-length {A} read path n no_items xs is = let e : ◌≡◌ {A = List A} [] xs = cc in ap length (sym e)
entries_at-length {A} read path n (item value rest) xs is =
    let first = then-ok (read (nth path n) value) (λ x. then (entries_at read path (suc n) rest) (λ more. Ok (x ∷ more))) xs is in
    let others = then-ok (entries_at read path (suc n) rest) (λ more. Ok (first.0 ∷ more)) xs first.2 in
    let e : first.0 ∷ others.0 ≡ xs = cc (others.2) in
    let ih = entries_at-length read path (suc n) rest others.0 others.1 in
    let shorter : length (first.0 ∷ others.0) ≡ length xs = ap length e in
    omega (arith, ih, shorter)

pub within-ok : {A : Type 0} (limit : ℕ) (path : List ℕ) (found : ℕ) (x y : A) → within limit path found x ≡ Ok y → (found ≤ limit) × (x ≡ y)
within-ok {A} limit path found x y is =
    elim (leb_tells (suc limit) found) [
      | inl t ↦ let e : ◌≡◌ {A = Result A DraftFault} (Err (Limit path found)) (Ok y) = rw t.0 at is in cc
      | inr f ↦ let e : ◌≡◌ {A = Result A DraftFault} (Ok x) (Ok y) = rw f.0 at is in (omega (arith, f.1), cc)
    ]

pub list_at-few : (limit before : ℕ) (path : List ℕ) (value : Option Data) (entries : Items) → list_at limit before path value ≡ Ok entries → before ≤ limit → before + count entries ≤ limit
list_at-few limit before path None entries is few = let e : no_items ≡ entries = cc in omega (arith, ap count e)
list_at-few limit before path (Some value) entries is few =
    let read = then-ok (field path (as_array value)) (λ found. within limit path (before + count found) found) entries is in
    let fits = within-ok limit path (before + count read.0) read.0 entries read.2 in
    omega (arith, fits.0, ap count fits.1)

pub list_of-few : {A : Type 0} (read : List ℕ → Data → Result A DraftFault) (limit before : ℕ) (prefix : List ℕ) (table : Members) (key : List ℕ) (xs : List A)
    → list_of read limit before prefix table key ≡ Ok xs → before ≤ limit → before + length xs ≤ limit
list_of-few read limit before prefix table key xs is few =
    let listed = then-ok (list_at limit before (prefix ++ key) (get_member key table)) (entries_at read (prefix ++ key) 0) xs is in
    let few_entries = list_at-few limit before (prefix ++ key) (get_member key table) listed.0 listed.1 few in
    omega (arith, few_entries, entries_at-length read (prefix ++ key) 0 listed.0 xs listed.2)

-- no recorder passes the limit on methods
pub recorder-few : (before : ℕ) (prefix : List ℕ) (table : Members) (r : DraftRecorder)
    → recorder_in before prefix table ≡ Ok r → before ≤ 1024 → before + length r.methods ≤ 1024
recorder-few before prefix table r is few =
    let named = then-ok (name_at prefix table (codes "name")) _ r is in
    let fields = then-ok (names_at 16 prefix table (codes "fields")) _ r named.2 in
    let statics = then-ok (names_at 16 prefix table (codes "statics")) _ r fields.2 in
    let methods = then-ok (list_of (table_entry method_in) 1024 before prefix table (codes "methods")) _ r statics.2 in
    let whole = others-ok recorder_keys prefix table _ r methods.2 in
    omega (arith, list_of-few (table_entry method_in) 1024 before prefix table (codes "methods") methods.0 methods.1 few, ap (λ (d : DraftRecorder). length d.methods) whole)

pub few_methods-by : (before : ℕ) (prefix : List ℕ) (table : Members) (r : Result DraftRecorder DraftFault)
    → (r ≡ Err Memory) ⊎ (r ≡ recorder_in before prefix table) → before ≤ 1024 → IfOk r (λ d. before + length d.methods ≤ 1024)
few_methods-by before prefix table (Err fault) is few = tt
few_methods-by before prefix table (Ok d) is few =
    elim is [ inl wanted ↦ cc | inr found ↦ recorder-few before prefix table d (sym found) few ]

pub entry-ok : {A : Type 0} (read : List ℕ → Members → Result A DraftFault) (path : List ℕ) (value : Data) (x : A)
    → table_entry read path value ≡ Ok x → (table : Members) × (read (inside path) table ≡ Ok x)
entry-ok read path value x is = let found = then-ok (field path (as_table value)) (read (inside path)) x is in (found.0, found.2)

-- as many recorders as entries, and all together don't pass the limit on methods
pub recorders-few : (before : ℕ) (path : List ℕ) (n : ℕ) (entries : Items) (rs : List DraftRecorder)
    → recorders_at before path n entries ≡ Ok rs → before ≤ 1024 → (length rs ≡ count entries) × (before + method_count rs ≤ 1024)
recorders-few before path n no_items rs is few =
    let none : ◌≡◌ {A = List DraftRecorder} [] rs = cc in
    (ap length (sym none), omega (arith, few, ap method_count none))
recorders-few before path n (item value rest) rs is few =
    let first = then-ok (table_entry (recorder_in before) (nth path n) value) _ rs is in
    let r = first.0 in
    let table = entry-ok (recorder_in before) (nth path n) value r first.1 in
    let few_now = recorder-few before (inside (nth path n)) table.0 r table.1 few in
    let others = then-ok (recorders_at (before + length r.methods) path (suc n) rest) _ rs first.2 in
    let all : ◌≡◌ {A = List DraftRecorder} (r ∷ others.0) rs = cc (others.2) in
    let ih = recorders-few (before + length r.methods) path (suc n) rest others.0 others.1 few_now in (
      omega (arith, ih.0, ap length all),
      omega (arith, ih.1, ap method_count all),
    )

pub recorders_of-few : (before methods : ℕ) (prefix : List ℕ) (table : Members) (rs : List DraftRecorder)
    → recorders_of before methods prefix table ≡ Ok rs → before ≤ 256 → methods ≤ 1024
    → (before + length rs ≤ 256) × (methods + method_count rs ≤ 1024)
recorders_of-few before methods prefix table rs is few few_methods =
    let listed = then-ok (list_at 256 before (prefix ++ codes "recorders") (get_member (codes "recorders") table)) (recorders_at methods (prefix ++ codes "recorders") 0) rs is in
    let few_entries = list_at-few 256 before (prefix ++ codes "recorders") (get_member (codes "recorders") table) listed.0 listed.1 few in
    let found = recorders-few methods (prefix ++ codes "recorders") 0 listed.0 rs listed.2 few_methods in
    (omega (arith, few_entries, found.0), found.1)

-- an extension that was read, part by part
pub record IsRead (sums : Sums) (prefix : List ℕ) (table : Members) (e : DraftExtension) : Type 0 where
  pub name : name_at prefix table (codes "name") ≡ Ok e.name
  pub items : list_of (table_entry item_in) 2048 sums.items prefix table (codes "items") ≡ Ok e.items
  pub beans : list_of (table_entry bean_in) 1024 sums.beans prefix table (codes "beans") ≡ Ok e.beans
  pub recorders : recorders_of sums.recorders sums.methods prefix table ≡ Ok e.recorders
  pub steps : list_of (table_entry step_in) 2048 sums.steps prefix table (codes "steps") ≡ Ok e.steps

pub extension-read : (sums : Sums) (prefix : List ℕ) (table : Members) (e : DraftExtension) → extension_in sums prefix table ≡ Ok e → IsRead sums prefix table e
unfolding extension_in
extension-read sums prefix table e is =
    let named = then-ok (name_at prefix table (codes "name")) _ e is in
    let items = then-ok (list_of (table_entry item_in) 2048 sums.items prefix table (codes "items")) _ e named.2 in
    let beans = then-ok (list_of (table_entry bean_in) 1024 sums.beans prefix table (codes "beans")) _ e items.2 in
    let recorders = then-ok (recorders_of sums.recorders sums.methods prefix table) _ e beans.2 in
    let steps = then-ok (list_of (table_entry step_in) 2048 sums.steps prefix table (codes "steps")) _ e recorders.2 in
    let whole = others-ok extension_keys prefix table _ e steps.2 in
    subst (λ (d : DraftExtension). IsRead sums prefix table d) whole (record {
      name = named.1;
      items = items.1;
      beans = beans.1;
      recorders = recorders.1;
      steps = steps.1;
    })

-- no extension passes a limit
pub extension-within : (sums : Sums) (prefix : List ℕ) (table : Members) (e : DraftExtension)
    → extension_in sums prefix table ≡ Ok e → IsWithin sums → IsWithin (sums_with sums e)
extension-within sums prefix table e is before =
    let read = extension-read sums prefix table e is in
    let recorders = recorders_of-few sums.recorders sums.methods prefix table e.recorders read.recorders before.recorders before.methods in
    record {
      items = list_of-few (table_entry item_in) 2048 sums.items prefix table (codes "items") e.items read.items before.items;
      beans = list_of-few (table_entry bean_in) 1024 sums.beans prefix table (codes "beans") e.beans read.beans before.beans;
      recorders = recorders.0;
      methods = recorders.1;
      steps = list_of-few (table_entry step_in) 2048 sums.steps prefix table (codes "steps") e.steps read.steps before.steps;
    }

pub within-by : (sums : Sums) (prefix : List ℕ) (table : Members) (r : Result DraftExtension DraftFault)
    → (r ≡ Err Memory) ⊎ (r ≡ extension_in sums prefix table) → IsWithin sums → IfOk r (λ e. IsWithin (sums_with sums e))
within-by sums prefix table (Err fault) is before = tt
within-by sums prefix table (Ok e) is before =
    elim is [ inl wanted ↦ cc | inr found ↦ extension-within sums prefix table e (sym found) before ]
