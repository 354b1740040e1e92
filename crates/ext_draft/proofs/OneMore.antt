-- The recorders and the extensions of a list, when one more was read.
use Rattle.std.proofs.Common.{◌≡◌, ◌∙◌, ◌⊎◌, inl, inr, ◌<◌, ap, sym, refl, arith, append_assoc, ℕ, suc, ◌+◌, List, [], ◌∷◌, ◌++◌, length, drop, get_or, Result, Ok, Err}
use Rattle.toml.specs.Data.{Data, Items, item}
use Rattle.toml.specs.View.{items_view, view}
use Rattle.toml.specs.declared.value.Value.{Value}
use Rattle.toml.proofs.Views.{items_view-drop}
use Rattle.ext_draft.specs.Declarations.{recorder_in, recorders_at}
use Rattle.ext_draft.specs.FirstWalk.{extension_in, extensions_at, sums_with}
use Rattle.ext_draft.specs.Paths.{nth}
use Rattle.ext_draft.specs.Reading.{then, table_entry}
use Rattle.ext_draft.specs.declared.draft.DraftExtension.{DraftExtension}
use Rattle.ext_draft.specs.declared.draft.DraftRecorder.{DraftRecorder}
use Rattle.ext_draft.specs.declared.draft.Sums.{Sums}
use Rattle.ext_draft.specs.declared.fault.DraftFault.{DraftFault}
use Rattle.ext_draft.specs.declared.fault.DraftFault.TheVariants.{Memory}
use Rattle.ext_draft.proofs.Reading.{after}

after-push : {A : Type 0} (found : List A) (x : A) (rest : Result (List A) DraftFault)
    → after found (then rest (λ more. Ok (x ∷ more))) ≡ after (found ++ x ∷ []) rest
after-push {A} found x (Ok more) = ap (λ (all : List A). Ok all) (sym (append_assoc found (x ∷ []) more))
after-push found x (Err fault) = refl

was-read : {A : Type 0} (x : A) (read : Result A DraftFault)
    → ◌⊎◌ (◌≡◌ {A = Result A DraftFault} (Ok x) (Err Memory)) (Ok x ≡ read) → Ok x ≡ read
was-read x read (inl wanted) = cc
was-read x read (inr is) = is

recorder-read : (found : List DraftRecorder) (r : DraftRecorder) (before : ℕ) (path : List ℕ) (n : ℕ) (value : Data) (rest : Items)
    → Ok r ≡ table_entry (recorder_in before) (nth path n) value
    → after found (recorders_at before path n (item value rest)) ≡ after (found ++ r ∷ []) (recorders_at (before + length r.methods) path (suc n) rest)
recorder-read found r before path n value rest is =
    ap (λ (read : Result DraftRecorder DraftFault). after found (then read (λ x. then (recorders_at (before + length x.methods) path (suc n) rest) (λ more. Ok (x ∷ more))))) (sym is)
    ∙ after-push found r (recorders_at (before + length r.methods) path (suc n) rest)

pub one_more_recorder : (found : List DraftRecorder) (r : DraftRecorder) (before : ℕ) (path : List ℕ) (n : ℕ) (value : Value) (values : List Value)
    → n < length values → value ≡ get_or values n value
    → ◌⊎◌ (◌≡◌ {A = Result DraftRecorder DraftFault} (Ok r) (Err Memory)) (Ok r ≡ table_entry (recorder_in before) (nth path n) (view value))
    → after found (recorders_at before path n (items_view (drop n values)))
    ≡ after (found ++ r ∷ []) (recorders_at (before + length r.methods) path (n + 1) (items_view (drop (n + 1) values)))
one_more_recorder found r before path n value values inside at answer =
    let next : suc n ≡ n + 1 = omega arith in
    ap (λ (entries : Items). after found (recorders_at before path n entries)) (items_view-drop values n value inside)
    ∙ recorder-read found r before path n (view (get_or values n value)) (items_view (drop (n + 1) values))
    (was-read r _ answer ∙ ap (λ (v : Value). table_entry (recorder_in before) (nth path n) (view v)) at)
    ∙ ap (λ m. after (found ++ r ∷ []) (recorders_at (before + length r.methods) path m (items_view (drop (n + 1) values)))) next

extension-read : (found : List DraftExtension) (e : DraftExtension) (sums : Sums) (path : List ℕ) (n : ℕ) (value : Data) (rest : Items)
    → Ok e ≡ table_entry (extension_in sums) (nth path n) value
    → after found (extensions_at sums path n (item value rest)) ≡ after (found ++ e ∷ []) (extensions_at (sums_with sums e) path (suc n) rest)
extension-read found e sums path n value rest is =
    ap (λ (read : Result DraftExtension DraftFault). after found (then read (λ x. then (extensions_at (sums_with sums x) path (suc n) rest) (λ more. Ok (x ∷ more))))) (sym is)
    ∙ after-push found e (extensions_at (sums_with sums e) path (suc n) rest)

pub one_more_extension : (found : List DraftExtension) (e : DraftExtension) (sums : Sums) (path : List ℕ) (n : ℕ) (value : Value) (values : List Value)
    → n < length values → value ≡ get_or values n value
    → ◌⊎◌ (◌≡◌ {A = Result DraftExtension DraftFault} (Ok e) (Err Memory)) (Ok e ≡ table_entry (extension_in sums) (nth path n) (view value))
    → after found (extensions_at sums path n (items_view (drop n values)))
    ≡ after (found ++ e ∷ []) (extensions_at (sums_with sums e) path (n + 1) (items_view (drop (n + 1) values)))
one_more_extension found e sums path n value values inside at answer =
    let next : suc n ≡ n + 1 = omega arith in
    ap (λ (entries : Items). after found (extensions_at sums path n entries)) (items_view-drop values n value inside)
    ∙ extension-read found e sums path n (view (get_or values n value)) (items_view (drop (n + 1) values))
    (was-read e _ answer ∙ ap (λ (v : Value). table_entry (extension_in sums) (nth path n) (view v)) at)
    ∙ ap (λ m. after (found ++ e ∷ []) (extensions_at (sums_with sums e) path m (items_view (drop (n + 1) values)))) next
