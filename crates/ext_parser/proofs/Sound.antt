-- The names, steps and final items of a project fit each other.
use Rattle.std.proofs.Common.{◌≡◌, inl, inr, ◌≤◌, ◌+◌, ◌∙◌, ap, sym, refl, subst, arith, ℕ, suc, Bool, true, List, [], ◌∷◌, ◌++◌, map, length, Result, Ok, Err, IfOk, length-append}
use Rattle.std.specs.List.{All, list_all, flat_map}
use Rattle.std.specs.Prelude.{codes, nat_le, IsTrue}
use Rattle.std.proofs.lemmas.Bool.Decides.{leb_tells}
use Rattle.std.proofs.lemmas.List.{length-map, map-id, map-append}
use Rattle.std.proofs.lemmas.List.Elements.{All-head, All-tail}
use Rattle.std.proofs.lemmas.List.Folds.{list_all-append, list_all-map}
use Rattle.item_types.specs.declared.decl.BeanDecl.{BeanDecl}
use Rattle.item_types.specs.declared.decl.ItemDecl.{ItemDecl}
use Rattle.item_types.specs.declared.decl.ItemKind.{ItemKind}
use Rattle.item_types.specs.declared.decl.ItemKind.TheVariants.{Simple, Multi, Ordered, Empty}
use Rattle.item_types.specs.declared.decl.RecorderDecl.{RecorderDecl}
use Rattle.item_types.specs.declared.step.Consume.{Consume}
use Rattle.item_types.specs.declared.step.Produce.{Produce}
use Rattle.ext_draft.specs.Declarations.{method_count}
use Rattle.ext_draft.specs.DraftOfTheBytes.{draft}
use Rattle.ext_draft.specs.Limits.{IsName, AreNames, IsRightKind, IsRightItem, IsRightBean, IsRightMethod, IsRightRecorder, IsRightStep, IsRightExtension, KeepsLimits}
use Rattle.ext_draft.specs.Names.{is_name}
use Rattle.ext_draft.specs.Paths.{nth, inside}
use Rattle.ext_draft.specs.declared.draft.Draft.{Draft}
use Rattle.ext_draft.specs.declared.draft.DraftConsume.{DraftConsume}
use Rattle.ext_draft.specs.declared.draft.DraftExtension.{DraftExtension}
use Rattle.ext_draft.specs.declared.draft.DraftMethod.{DraftMethod}
use Rattle.ext_draft.specs.declared.draft.DraftProduce.{DraftProduce}
use Rattle.ext_draft.specs.declared.draft.DraftRecorder.{DraftRecorder}
use Rattle.ext_draft.specs.declared.draft.DraftStep.{DraftStep}
use Rattle.ext_draft.specs.declared.fault.DraftFault.{DraftFault}
use Rattle.project_fit.specs.Fits.{none_twice, are_names, kind_fits, item_fits, bean_fits, method_fits, method_names, recorder_fits, method_total, items_fit, beans_fit, recorders_fit, names_fit, numbers_fit, step_numbers_fit, step_fits, steps_fit, fits}
use Rattle.ext_parser.specs.Declarations.{number, consume_of, produce_of, keys_on, step_of, steps_of, names_of, method_of, recorder_of, beans_of, recorders_of}
use Rattle.ext_parser.specs.ProjectOfTheBytes.{project_of, project_of_draft, project}
use Rattle.ext_parser.specs.SecondWalk.{Checked, right, then, fresh, all_fresh, all_known, row, item_right, bean_right, method_right, recorder_right, step_right, extension_right, extensions_right, names_with, nothing_before, known_of, file_right, items_of}
use Rattle.ext_parser.specs.declared.known.Known.{Known}
use Rattle.ext_parser.specs.declared.project.Project.{Project}
use Rattle.ext_parser.specs.declared.second_walk.Before.{Before}
use Rattle.ext_parser.specs.declared.texts.Texts.{Texts}
use Rattle.project_fit.proofs.Apart.{and-true, apart-append}
use Rattle.ext_parser.proofs.Apart.{fresh-apart, row-apart}
use Rattle.ext_parser.proofs.Steps.{apart-steps}
use Rattle.project_fit.proofs.FullNames.{none}
use Rattle.ext_parser.proofs.Distinct.{numbers-apart, numbers-below}
use Rattle.ext_parser.proofs.Numbers.{both, then-ok, extension-right, IsRight, kept-checked, same-lengths}

le-true : (n limit : ℕ) → n ≤ limit → nat_le n limit ≡ true
le-true n limit few = elim (leb_tells n limit) [ inl e ↦ e.0 | inr f ↦ absurd (omega (arith, few, f.1)) ]

true-of : (b : Bool) → IsTrue b → b ≡ true
true-of b is = is

all-names : (texts : List (List ℕ)) → All IsName texts → list_all is_name texts ≡ true
all-names [] all = refl
all-names (t ∷ texts) all = and-true _ _ (true-of (is_name t) (All-head IsName t texts all)) (all-names texts (All-tail IsName t texts all))

are-names : (limit : ℕ) (texts : List (List ℕ)) → AreNames limit texts → none_twice [] texts ≡ true → are_names limit texts ≡ true
are-names limit texts names apart = and-true _ _ (le-true (length texts) limit names.few) (and-true _ _ (all-names texts names.right) apart)

-- a row whose things are right in both walks passes a test of each
row-test : {A B : Type 0} (P : A → Type 0) (name : A → List ℕ) (inner : List ℕ → A → Checked) (build : A → B) (test : B → Bool)
    → ((prefix : List ℕ) (x : A) → P x → inner prefix x ≡ right → test (build x) ≡ true)
    → (path : List ℕ) (n : ℕ) (before : List (List ℕ)) (xs : List A) → All P xs → row name inner path n before xs ≡ right → list_all test (map build xs) ≡ true
row-test P name inner build test each path n before [] all is = refl
row-test {A} P name inner build test each path n before (x ∷ xs) all is =
    let prefix = inside (nth path n) in
    let later : Checked = row name inner path (suc n) (before ++ name x ∷ []) xs in
    let named = both (fresh (prefix ++ codes "name") before (name x)) (then (inner prefix x) (λ _. later)) is in
    let parts = both (inner prefix x) later named.1 in
    and-true _ _ (each prefix x (All-head P x xs all) parts.0)
    (row-test P name inner build test each path (suc n) (before ++ name x ∷ []) xs (All-tail P x xs all) parts.1)

kind-true : (kind : ItemKind) → IsRightKind kind → kind_fits kind ≡ true
kind-true Simple is = refl
kind-true Multi is = refl
kind-true (Ordered by) is = true-of (is_name by) is
kind-true Empty is = refl

item-true : (prefix : List ℕ) (i : ItemDecl) → IsRightItem i → item_right prefix i ≡ right → item_fits i ≡ true
item-true prefix i first second = kind-true i.kind first.kind

bean-true : (prefix : List ℕ) (b : BeanDecl) → IsRightBean b → bean_right prefix b ≡ right → bean_fits b ≡ true
bean-true prefix b first second = are-names 16 b.fields first.fields (fresh-apart (prefix ++ codes "fields") 0 [] b.fields second)

method-true : (prefix : List ℕ) (m : DraftMethod) → IsRightMethod m → method_right prefix m ≡ right → method_fits (method_of m) ≡ true
method-true prefix m first second =
    are-names 8 m.params first.params (fresh-apart (prefix ++ codes "params") 0 [] m.params second)

method-names : (methods : List DraftMethod) → method_names (map method_of methods) ≡ map (λ (m : DraftMethod). m.name) methods
method-names [] = refl
method-names (m ∷ methods) = ap (λ (names : List (List ℕ)). m.name ∷ names) (method-names methods)

names-of-methods : (methods : List DraftMethod) → All IsRightMethod methods → list_all is_name (map (λ (m : DraftMethod). m.name) methods) ≡ true
names-of-methods [] all = refl
names-of-methods (m ∷ methods) all =
    and-true _ _ (true-of (is_name m.name) (All-head IsRightMethod m methods all).name) (names-of-methods methods (All-tail IsRightMethod m methods all))

methods-few : (r : DraftRecorder) → length r.methods ≤ 1024 → length (map (λ (m : DraftMethod). m.name) r.methods) ≤ 1024
methods-few r few = omega (arith, few, length-map r.methods (λ (m : DraftMethod). m.name))

recorder-true : (prefix : List ℕ) (r : DraftRecorder) → IsRightRecorder r → recorder_right prefix r ≡ right → recorder_fits (recorder_of r) ≡ true
recorder-true prefix r first second =
    let fields = then-ok (all_fresh (prefix ++ codes "fields") 0 [] r.fields) _ tt second in
    let statics = then-ok (all_fresh (prefix ++ codes "statics") 0 [] r.statics) _ tt fields.2 in
    let named : are_names 1024 (map (λ (m : DraftMethod). m.name) r.methods) ≡ true
    = and-true _ _ (le-true _ 1024 (methods-few r first.few))
    (and-true _ _ (names-of-methods r.methods first.methods) (row-apart (λ (m : DraftMethod). m.name) method_right (prefix ++ codes "methods") 0 [] r.methods statics.2)) in
    and-true _ _ (are-names 16 r.fields first.fields (fresh-apart (prefix ++ codes "fields") 0 [] r.fields fields.1))
    (and-true _ _ (are-names 16 r.statics first.statics (fresh-apart (prefix ++ codes "statics") 0 [] r.statics statics.1))
    (and-true _ _ (ap (are_names 1024) (method-names r.methods) ∙ named)
    (row-test IsRightMethod (λ (m : DraftMethod). m.name) method_right method_of method_fits method-true (prefix ++ codes "methods") 0 [] r.methods first.methods statics.2)))

method_count-append : (rs more : List DraftRecorder) → method_count (rs ++ more) ≡ method_count rs + method_count more
method_count-append [] more = omega arith
method_count-append (r ∷ rs) more = let ih = method_count-append rs more in omega (arith, ih)

-- what each extension has of a kind passes a test
test-all : {B : Type 0} (part : DraftExtension → List B) (test : B → Bool) (known : Known)
    → ((prefix : List ℕ) (before : Before) (e : DraftExtension) → IsRightExtension e → IsRight known prefix before e → list_all test (part e) ≡ true)
    → (n : ℕ) (before : Before) (es : List DraftExtension) → All IsRightExtension es → extensions_right known n before es ≡ right → list_all test (flat_map part es) ≡ true
test-all part test known each n before [] all is = refl
test-all part test known each n before (e ∷ es) all is =
    let prefix = inside (nth (codes "extensions") n) in
    let parts = both (extension_right known prefix before e) (extensions_right known (suc n) (names_with before e) es) is in
    list_all-append test (part e) (flat_map part es)
    ∙ and-true _ _ (each prefix before e (All-head IsRightExtension e es all) (extension-right known prefix before e parts.0))
    (test-all part test known each (suc n) (names_with before e) es (All-tail IsRightExtension e es all) parts.1)

-- what all extensions have of a kind has its names once
apart-all : {B : Type 0} (part : DraftExtension → List B) (name : B → List ℕ) (seen : Before → List (List ℕ)) (known : Known)
    → ((before : Before) (e : DraftExtension) → seen (names_with before e) ≡ seen before ++ map name (part e))
    → ((prefix : List ℕ) (before : Before) (e : DraftExtension) → IsRight known prefix before e → none_twice (seen before) (map name (part e)) ≡ true)
    → (n : ℕ) (before : Before) (es : List DraftExtension) → extensions_right known n before es ≡ right → none_twice (seen before) (map name (flat_map part es)) ≡ true
apart-all part name seen known more each n before [] is = refl
apart-all part name seen known more each n before (e ∷ es) is =
    let prefix = inside (nth (codes "extensions") n) in
    let parts = both (extension_right known prefix before e) (extensions_right known (suc n) (names_with before e) es) is in
    let here = each prefix before e (extension-right known prefix before e parts.0) in
    let rest = apart-all part name seen known more each (suc n) (names_with before e) es parts.1 in
    subst (λ (names : List (List ℕ)). none_twice (seen before) names ≡ true) (sym (map-append name (part e) (flat_map part es)))
    (apart-append (seen before) (map name (part e)) (map name (flat_map part es)) here
    (subst (λ (names : List (List ℕ)). none_twice names (map name (flat_map part es)) ≡ true) (more before e) rest))

all-of : {A : Type 0} (P : A → Type 0) (test : A → Bool) → ((x : A) → P x → test x ≡ true) → (xs : List A) → All P xs → list_all test xs ≡ true
all-of P test each [] all = refl
all-of P test each (x ∷ xs) all = and-true _ _ (each x (All-head P x xs all)) (all-of P test each xs (All-tail P x xs all))

recorder-names : (rs : List DraftRecorder) → map (λ (r : RecorderDecl). r.name) (map recorder_of rs) ≡ map (λ (r : DraftRecorder). r.name) rs
recorder-names [] = refl
recorder-names (r ∷ rs) = ap (λ (names : List (List ℕ)). r.name ∷ names) (recorder-names rs)

total-append : (rs more : List RecorderDecl) → method_total (rs ++ more) ≡ method_total rs + method_total more
total-append [] more = omega arith
total-append (r ∷ rs) more = let ih = total-append rs more in omega (arith, ih)

total-of : (rs : List DraftRecorder) → method_total (map recorder_of rs) ≡ method_count rs
total-of [] = refl
total-of (r ∷ rs) = let ih = total-of rs in omega (arith, ih, length-map r.methods method_of)

total-all : (es : List DraftExtension) → method_total (recorders_of es) ≡ method_count (flat_map (λ (e : DraftExtension). e.recorders) es)
total-all [] = refl
total-all (e ∷ es) =
    let ih = total-all es in
    omega (
      arith,
      ih,
      total-append (map recorder_of e.recorders) (recorders_of es),
      total-of e.recorders,
      method_count-append e.recorders (flat_map (λ (d : DraftExtension). d.recorders) es),
    )

count-recorders : (es : List DraftExtension) → length (recorders_of es) ≡ length (flat_map (λ (e : DraftExtension). e.recorders) es)
count-recorders [] = refl
count-recorders (e ∷ es) =
    let ih = count-recorders es in
    omega (
      arith,
      ih,
      length-append (map recorder_of e.recorders) (recorders_of es),
      length-append e.recorders (flat_map (λ (d : DraftExtension). d.recorders) es),
      length-map e.recorders recorder_of,
    )

-- a draft that is right in both walks
record IsSound (d : Draft) : Type 0 where
  keeps : KeepsLimits d
  good : All IsRightExtension d.extensions
  right_names : extensions_right (known_of d) 0 nothing_before d.extensions ≡ right
  right_finals : all_known (known_of d).items (codes "finals") 0 [] d.finals ≡ right

sound-of : (d : Draft) → KeepsLimits d → file_right d ≡ right → IsSound d
sound-of d keeps is =
    let parts = both (extensions_right (known_of d) 0 nothing_before d.extensions) (all_known (known_of d).items (codes "finals") 0 [] d.finals) is in
    record { keeps = keeps; good = keeps.each; right_names = parts.0; right_finals = parts.1 }

items-true : (d : Draft) → IsSound d → items_fit (items_of d.extensions) ≡ true
items-true d sound =
    let items = items_of d.extensions in
    let name = λ (i : ItemDecl). i.name in
    let part = λ (e : DraftExtension). e.items in
    and-true _ _
    (and-true _ _ (le-true _ 2048 (omega (arith, sound.keeps.items, length-map items name)))
    (and-true _ _
    (list_all-map is_name name items
    ∙ test-all part (λ (i : ItemDecl). is_name i.name) (known_of d)
    (λ prefix before e good rows. all-of IsRightItem (λ (i : ItemDecl). is_name i.name) (λ i right_item. true-of (is_name i.name) right_item.name) e.items good.items)
    0 nothing_before d.extensions sound.good sound.right_names)
    (apart-all part name (λ (b : Before). b.items) (known_of d) (λ before e. refl)
    (λ prefix before e rows. row-apart name item_right (prefix ++ codes "items") 0 before.items e.items rows.items)
    0 nothing_before d.extensions sound.right_names)))
    (test-all part item_fits (known_of d)
    (λ prefix before e good rows. all-of IsRightItem item_fits (λ i right_item. kind-true i.kind right_item.kind) e.items good.items)
    0 nothing_before d.extensions sound.good sound.right_names)

beans-true : (d : Draft) → IsSound d → beans_fit (beans_of d.extensions) ≡ true
beans-true d sound =
    let beans = beans_of d.extensions in
    let name = λ (b : BeanDecl). b.name in
    let part = λ (e : DraftExtension). e.beans in
    and-true _ _
    (and-true _ _ (le-true _ 1024 (omega (arith, sound.keeps.beans, length-map beans name)))
    (and-true _ _
    (list_all-map is_name name beans
    ∙ test-all part (λ (b : BeanDecl). is_name b.name) (known_of d)
    (λ prefix before e good rows. all-of IsRightBean (λ (b : BeanDecl). is_name b.name) (λ b right_bean. true-of (is_name b.name) right_bean.name) e.beans good.beans)
    0 nothing_before d.extensions sound.good sound.right_names)
    (apart-all part name (λ (b : Before). b.beans) (known_of d) (λ before e. refl)
    (λ prefix before e rows. row-apart name bean_right (prefix ++ codes "beans") 0 before.beans e.beans rows.beans)
    0 nothing_before d.extensions sound.right_names)))
    (test-all part bean_fits (known_of d)
    (λ prefix before e good rows.
    rw (map-id e.beans) at (row-test IsRightBean name bean_right (λ (b : BeanDecl). b) bean_fits bean-true (prefix ++ codes "beans") 0 before.beans e.beans good.beans rows.beans))
    0 nothing_before d.extensions sound.good sound.right_names)

names-of-recorders : (rs : List DraftRecorder) → All IsRightRecorder rs → list_all (λ (r : RecorderDecl). is_name r.name) (map recorder_of rs) ≡ true
names-of-recorders [] all = refl
names-of-recorders (r ∷ rs) all =
    and-true _ _ (true-of (is_name r.name) (All-head IsRightRecorder r rs all).name) (names-of-recorders rs (All-tail IsRightRecorder r rs all))

recorders-true : (d : Draft) → IsSound d → recorders_fit (recorders_of d.extensions) ≡ true
recorders-true d sound =
    let recorders = recorders_of d.extensions in
    let name = λ (r : RecorderDecl). r.name in
    let part = λ (e : DraftExtension). map recorder_of e.recorders in
    and-true _ _
    (and-true _ _ (le-true _ 256 (omega (arith, sound.keeps.recorders, length-map recorders name, count-recorders d.extensions)))
    (and-true _ _
    (list_all-map is_name name recorders
    ∙ test-all part (λ (r : RecorderDecl). is_name r.name) (known_of d)
    (λ prefix before e good rows. names-of-recorders e.recorders good.recorders)
    0 nothing_before d.extensions sound.good sound.right_names)
    (apart-all part name (λ (b : Before). b.recorders) (known_of d)
    (λ before e. ap (λ (names : List (List ℕ)). before.recorders ++ names) (sym (recorder-names e.recorders)))
    (λ prefix before e rows.
    subst (λ (names : List (List ℕ)). none_twice before.recorders names ≡ true) (sym (recorder-names e.recorders))
    (row-apart (λ (r : DraftRecorder). r.name) recorder_right (prefix ++ codes "recorders") 0 before.recorders e.recorders rows.recorders))
    0 nothing_before d.extensions sound.right_names)))
    (and-true _ _
    (test-all part recorder_fits (known_of d)
    (λ prefix before e good rows.
    row-test IsRightRecorder (λ (r : DraftRecorder). r.name) recorder_right recorder_of recorder_fits recorder-true (prefix ++ codes "recorders") 0 before.recorders e.recorders
    good.recorders rows.recorders)
    0 nothing_before d.extensions sound.good sound.right_names)
    (le-true _ 1024 (omega (arith, sound.keeps.methods, total-all d.extensions))))

names-true : (d : Draft) → IsSound d → names_fit (names_of d.extensions) ≡ true
unfolding names_fit
names-true d sound = and-true _ _ (items-true d sound) (and-true _ _ (beans-true d sound) (recorders-true d sound))

-- numbers of entries that are known, few and apart
numbers-true : (items : List (List ℕ)) (size limit : ℕ) (path : List ℕ) (texts : List (List ℕ)) → size ≡ length items → length texts ≤ limit
    → all_known items path 0 [] texts ≡ right → numbers_fit size limit (map (number items) texts) ≡ true
numbers-true items size limit path texts same few is =
    and-true _ _ (le-true _ limit (omega (arith, few, length-map texts (number items))))
    (and-true _ _ (numbers-below items path 0 size [] texts same is) (numbers-apart items path 0 [] texts refl is))

consumed-numbers : (items : List (List ℕ)) (cs : List DraftConsume) → map (λ (c : Consume). c.item) (map (consume_of items) cs) ≡ map (number items) (map (λ (c : DraftConsume). c.item) cs)
consumed-numbers items [] = refl
consumed-numbers items (c ∷ cs) = ap (λ (ns : List ℕ). number items c.item ∷ ns) (consumed-numbers items cs)

produced-numbers : (items : List (List ℕ)) (ps : List DraftProduce) → map (λ (p : Produce). p.item) (map (produce_of items) ps) ≡ map (number items) (map (λ (p : DraftProduce). p.item) ps)
produced-numbers items [] = refl
produced-numbers items (p ∷ ps) = ap (λ (ns : List ℕ). number items p.item ∷ ns) (produced-numbers items ps)

step-numbers : (known : Known) (on : List (List ℕ)) (size : ℕ) (ext : List ℕ) → size ≡ length known.items
    → (prefix : List ℕ) (s : DraftStep) → IsRightStep s → step_right known prefix s ≡ right → step_numbers_fit size (step_of known.items on ext s) ≡ true
unfolding step_numbers_fit
step-numbers known on size ext same prefix s first second =
    let consumed = then-ok (all_known known.items (prefix ++ codes "consumes") 0 [] (map (λ (c : DraftConsume). c.item) s.consumes)) _ tt second in
    let produced = then-ok (all_known known.items (prefix ++ codes "produces") 0 [] (map (λ (p : DraftProduce). p.item) s.produces)) _ tt consumed.2 in
    and-true _ _
    (ap (numbers_fit size 64) (consumed-numbers known.items s.consumes)
    ∙ numbers-true known.items size 64 (prefix ++ codes "consumes") (map (λ (c : DraftConsume). c.item) s.consumes) same
    (omega (arith, first.consumes, length-map s.consumes (λ (c : DraftConsume). c.item))) consumed.1)
    (ap (numbers_fit size 64) (produced-numbers known.items s.produces)
    ∙ numbers-true known.items size 64 (prefix ++ codes "produces") (map (λ (p : DraftProduce). p.item) s.produces) same
    (omega (arith, first.produces, length-map s.produces (λ (p : DraftProduce). p.item))) produced.1)

step-true : (known : Known) (on : List (List ℕ)) (size : ℕ) (ext : List ℕ) → size ≡ length known.items → IsName ext
    → (prefix : List ℕ) (s : DraftStep) → IsRightStep s → step_right known prefix s ≡ right → step_fits size (step_of known.items on ext s) ≡ true
step-true known on size ext same named prefix s first second =
    and-true _ _ (true-of (is_name ext) named)
    (and-true _ _ (true-of (is_name s.name) first.name) (step-numbers known on size ext same prefix s first second))

steps-true : (d : Draft) → IsSound d → steps_fit (length (items_of d.extensions)) (flat_map (steps_of (known_of d).items (keys_on d.config)) d.extensions) ≡ true
unfolding steps_fit
steps-true d sound =
    let known = known_of d in
    let on = keys_on d.config in
    let size = length (items_of d.extensions) in
    let same : size ≡ length known.items = sym (length-map (items_of d.extensions) (λ (i : ItemDecl). i.name)) in
    and-true _ _ (le-true _ 2048 (omega (arith, sound.keeps.steps, same-lengths known.items on d.extensions)))
    (and-true _ _
    (test-all (steps_of known.items on) (step_fits size) known
    (λ prefix before e good rows.
    row-test IsRightStep (λ (s : DraftStep). s.name) (step_right known) (step_of known.items on e.name) (step_fits size)
    (step-true known on size e.name same good.name) (prefix ++ codes "steps") 0 [] e.steps good.steps rows.steps)
    0 nothing_before d.extensions sound.good sound.right_names)
    (apart-steps known on 0 nothing_before [] d.extensions sound.good sound.right_names none))

finals-true : (d : Draft) → IsSound d → numbers_fit (length (items_of d.extensions)) 2048 (map (number (known_of d).items) d.finals) ≡ true
finals-true d sound =
    numbers-true (known_of d).items (length (items_of d.extensions)) 2048 (codes "finals") d.finals (sym (length-map (items_of d.extensions) (λ (i : ItemDecl). i.name))) sound.keeps.finals sound.right_finals

abbrev pub HasFit : Project → Type 0
HasFit p = IsTrue (fits p.names p.steps p.finals)

fits-true : (d : Draft) (t : Texts) → KeepsLimits d → file_right d ≡ right → HasFit (project_of d t)
fits-true d t keeps is =
    let sound = sound-of d keeps is in
    and-true _ _ (names-true d sound) (and-true _ _ (steps-true d sound) (finals-true d sound))

fits-drafted : (r : Result Draft DraftFault) → IfOk r KeepsLimits → IfOk (project_of_draft r) HasFit
fits-drafted (Ok d) keeps = kept-checked HasFit d (file_right d) refl (λ is t. fits-true d t keeps is)
fits-drafted (Err fault) keeps = tt

pub project-fits : (bytes : List ℕ) → IfOk (draft bytes) KeepsLimits → IfOk (project bytes) HasFit
unfolding project
project-fits bytes keeps = fits-drafted (draft bytes) keeps
