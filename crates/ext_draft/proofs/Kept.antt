-- A file that was read keeps the limits on what it declares.
use Rattle.std.proofs.Common.{◌≡◌, ◌⊎◌, ◌≤◌, ap, ◌+◌, ◌++◌, ℕ, suc, sym, subst, refl, arith, inl, inr, List, [], ◌∷◌, length, Option, Some, None, Result, Ok, Err, IfOk, length-append, lit≤}
use Rattle.std.specs.List.{flat_map}
use Rattle.std.specs.Prelude.{codes}
use Rattle.std.proofs.lemmas.Bool.Decides.{leb_tells}
use Rattle.toml.specs.Data.{Items, no_items, item, Members, get_member}
use Rattle.toml_keys.specs.Documents.{count, integer_at, table_of}
use Rattle.ext_draft.specs.Declarations.{method_count}
use Rattle.ext_draft.specs.DraftOfTheBytes.{draft, draft_of_table, draft_within}
use Rattle.ext_draft.specs.FirstWalk.{config_at, extension_in, extensions_at, extensions_of, no_sums, sums_with, IsWithin, file, file_keys, final, format_of, major_of}
use Rattle.ext_draft.specs.Limits.{KeepsLimits}
use Rattle.ext_draft.specs.Paths.{nth, inside}
use Rattle.ext_draft.specs.Reading.{field, name_at, list_at, list_of, table_entry}
use Rattle.ext_draft.specs.declared.draft.Draft.{Draft}
use Rattle.ext_draft.specs.declared.draft.DraftExtension.{DraftExtension}
use Rattle.ext_draft.specs.declared.draft.DraftRecorder.{DraftRecorder}
use Rattle.ext_draft.specs.declared.draft.Sums.{Sums}
use Rattle.ext_draft.specs.declared.fault.DraftFault.{DraftFault}
use Rattle.ext_draft.specs.declared.fault.DraftFault.TheVariants.{Limit, Memory}
use Rattle.ext_draft.proofs.Bounds.{then-ok, others-ok, entry-ok, list_at-few, list_of-few, extension-within}
use Rattle.ext_draft.proofs.RightTexts.{name_at-ok, config-ok, right-extensions}

method_count-append : (rs more : List DraftRecorder) → method_count (rs ++ more) ≡ method_count rs + method_count more
method_count-append [] more = omega arith
method_count-append (r ∷ rs) more = let ih = method_count-append rs more in omega (arith, ih)

-- what some extensions have together with those before them
pub record AreWithin (sums : Sums) (es : List DraftExtension) : Type 0 where
  pub items : sums.items + length (flat_map (λ (e : DraftExtension). e.items) es) ≤ 2048
  pub beans : sums.beans + length (flat_map (λ (e : DraftExtension). e.beans) es) ≤ 1024
  pub recorders : sums.recorders + length (flat_map (λ (e : DraftExtension). e.recorders) es) ≤ 256
  pub methods : sums.methods + method_count (flat_map (λ (e : DraftExtension). e.recorders) es) ≤ 1024
  pub steps : sums.steps + length (flat_map (λ (e : DraftExtension). e.steps) es) ≤ 2048

none-within : (sums : Sums) → IsWithin sums → AreWithin sums []
none-within sums w = record {
  items = omega (arith, w.items);
  beans = omega (arith, w.beans);
  recorders = omega (arith, w.recorders);
  methods = omega (arith, w.methods);
  steps = omega (arith, w.steps);
}

one-more : (sums : Sums) (e : DraftExtension) (es : List DraftExtension) → AreWithin (sums_with sums e) es → AreWithin sums (e ∷ es)
one-more sums e es w = record {
  items = omega (arith, w.items, length-append e.items (flat_map (λ (d : DraftExtension). d.items) es));
  beans = omega (arith, w.beans, length-append e.beans (flat_map (λ (d : DraftExtension). d.beans) es));
  recorders = omega (arith, w.recorders, length-append e.recorders (flat_map (λ (d : DraftExtension). d.recorders) es));
  methods = omega (arith, w.methods, method_count-append e.recorders (flat_map (λ (d : DraftExtension). d.recorders) es));
  steps = omega (arith, w.steps, length-append e.steps (flat_map (λ (d : DraftExtension). d.steps) es));
}

extensions-within : (sums : Sums) (path : List ℕ) (n : ℕ) (entries : Items) (es : List DraftExtension)
    → extensions_at sums path n entries ≡ Ok es → IsWithin sums → AreWithin sums es
extensions-within sums path n no_items es is before =
    let none : ◌≡◌ {A = List DraftExtension} [] es = cc in
    subst (AreWithin sums) none (none-within sums before)
extensions-within sums path n (item value rest) es is before =
    let first = then-ok (table_entry (extension_in sums) (nth path n) value) _ es is in
    let table = entry-ok (extension_in sums) (nth path n) value first.0 first.1 in
    let within = extension-within sums (inside (nth path n)) table.0 first.0 table.1 before in
    let others = then-ok (extensions_at (sums_with sums first.0) path (suc n) rest) _ es first.2 in
    let all : ◌≡◌ {A = List DraftExtension} (first.0 ∷ others.0) es = cc (others.2) in
    subst (AreWithin sums) all
    (one-more sums first.0 others.0 (extensions-within (sums_with sums first.0) path (suc n) rest others.0 others.1 within))

extensions-count : (sums : Sums) (path : List ℕ) (n : ℕ) (entries : Items) (es : List DraftExtension) → extensions_at sums path n entries ≡ Ok es → length es ≡ count entries
extensions-count sums path n no_items es is = let none : ◌≡◌ {A = List DraftExtension} [] es = cc in ap length (sym none)
extensions-count sums path n (item value rest) es is =
    let first = then-ok (table_entry (extension_in sums) (nth path n) value) _ es is in
    let others = then-ok (extensions_at (sums_with sums first.0) path (suc n) rest) _ es first.2 in
    let all : ◌≡◌ {A = List DraftExtension} (first.0 ∷ others.0) es = cc (others.2) in
    let ih = extensions-count (sums_with sums first.0) path (suc n) rest others.0 others.1 in
    omega (arith, ih, ap length all)

-- a file that was read, part by part
pub record IsFile (table : Members) (d : Draft) : Type 0 where
  pub app : name_at [] table (codes "app") ≡ Ok d.app
  pub config : config_at (get_member (codes "config") table) ≡ Ok d.config
  pub finals : list_of final 2048 0 [] table (codes "finals") ≡ Ok d.finals
  pub extensions : extensions_of table ≡ Ok d.extensions

pub file-read : (table : Members) (d : Draft) → file table ≡ Ok d → IsFile table d
file-read table d is =
    let format = then-ok (field (codes "format") (format_of (integer_at (codes "format") table))) _ d is in
    let app = then-ok (name_at [] table (codes "app")) _ d format.2 in
    let major = then-ok (major_of format.0 table) _ d app.2 in
    let config = then-ok (config_at (get_member (codes "config") table)) _ d major.2 in
    let finals = then-ok (list_of final 2048 0 [] table (codes "finals")) _ d config.2 in
    let extensions = then-ok (extensions_of table) _ d finals.2 in
    let whole = others-ok (file_keys format.0) [] table _ d extensions.2 in
    subst (IsFile table) whole (record { app = app.1; config = config.1; finals = finals.1; extensions = extensions.1 })

start-within : IsWithin no_sums
start-within = record { items = lit≤ tt; beans = lit≤ tt; recorders = lit≤ tt; methods = lit≤ tt; steps = lit≤ tt }

kept-of : (table : Members) (d : Draft) → IsFile table d → KeepsLimits d
kept-of table d read =
    let entries = then-ok (list_at 256 0 (codes "extensions") (get_member (codes "extensions") table)) _ d.extensions read.extensions in
    let w = extensions-within no_sums (codes "extensions") 0 entries.0 d.extensions entries.2 start-within in
    record {
      app = name_at-ok [] table (codes "app") d.app read.app;
      config = config-ok (get_member (codes "config") table) d.config read.config;
      finals = omega (arith, list_of-few final 2048 0 [] table (codes "finals") d.finals read.finals (omega arith));
      extensions = omega (
        arith,
        list_at-few 256 0 (codes "extensions") (get_member (codes "extensions") table) entries.0 entries.1 (omega arith),
        extensions-count no_sums (codes "extensions") 0 entries.0 d.extensions entries.2,
      );
      each = right-extensions no_sums (codes "extensions") 0 entries.0 d.extensions entries.2 start-within;
      items = omega (arith, w.items);
      beans = omega (arith, w.beans);
      recorders = omega (arith, w.recorders);
      methods = omega (arith, w.methods);
      steps = omega (arith, w.steps);
    }

file-keeps : (table : Members) (d : Draft) → file table ≡ Ok d → KeepsLimits d
file-keeps table d is = kept-of table d (file-read table d is)

pub table-keeps : (table : Option Members) (d : Draft) → draft_of_table table ≡ Ok d → KeepsLimits d
table-keeps None d is = cc
table-keeps (Some table) d is = file-keeps table d is

within-keeps : (limit : ℕ) (bytes : List ℕ) (d : Draft) → draft_within limit bytes ≡ Ok d → KeepsLimits d
within-keeps limit bytes d is =
    elim (leb_tells (length bytes) limit) [
      | inl t ↦ let e : draft_of_table (table_of bytes) ≡ Ok d = rw t.0 at is in table-keeps (table_of bytes) d e
      | inr f ↦ let e : ◌≡◌ {A = Result Draft DraftFault} (Err (Limit (codes "file") (limit + 1))) (Ok d) = rw f.0 at is in cc
    ]

keeps-by : (bytes : List ℕ) (d : Draft) → draft bytes ≡ Ok d → KeepsLimits d
unfolding draft
keeps-by bytes d is = within-keeps 1048576 bytes d is

if-read : (r : Result Draft DraftFault) → ((d : Draft) → r ≡ Ok d → KeepsLimits d) → IfOk r KeepsLimits
if-read (Ok d) keeps = keeps d refl
if-read (Err fault) keeps = tt

pub draft-keeps : (bytes : List ℕ) → IfOk (draft bytes) KeepsLimits
draft-keeps bytes = if-read (draft bytes) (keeps-by bytes)

pub answer-keeps : (r : Result Draft DraftFault) (bytes : List ℕ) → (r ≡ Err Memory) ⊎ (r ≡ draft bytes) → IfOk r KeepsLimits
answer-keeps (Err fault) bytes is = tt
answer-keeps (Ok d) bytes is = elim is [ inl wanted ↦ cc | inr found ↦ keeps-by bytes d (sym found) ]
