-- There is room for all that the class of a recording enters.
use Rattle.std.proofs.Common.{◌≡◌, ℕ, zero, suc, ◌+◌, ◌*◌, ◌/◌, ◌<◌, ◌≤◌, List, [], ◌∷◌, ◌++◌, length, Option, Some, None, refl, sym, ap, subst, ◌∙◌, arith, sum_by}
use Rattle.std.specs.List.{flat_map}
use Rattle.std.proofs.lemmas.List.Sums.{sum_by-cons}
use Rattle.item_types.specs.declared.decl.Names.{Names}
use Rattle.item_types.specs.declared.decl.BeanDecl.{BeanDecl}
use Rattle.item_types.specs.declared.decl.RecorderDecl.{RecorderDecl}
use Rattle.item_types.specs.declared.decl.MethodSig.{MethodSig}
use Rattle.recorder_proxy.specs.Sizes.{cells_of}
use Rattle.recorder_proxy.specs.declared.call.Recording.{Recording}
use Rattle.class_pool.specs.declared.entry.Entry.{Entry}
use Rattle.class_pool.specs.declared.shown.Shown.{Shown}
use Rattle.class_pool.specs.Growth.{weight, one, left, ReferRight, Grows}
use Rattle.class_pool.proofs.CallerLemmas.{left_at_most, size_one}
use Rattle.recording_units.specs.declared.types.Used.{Used}
use Rattle.recording_units.specs.declared.types.Piece.{Piece}
use Rattle.recording_units.specs.Units.{Walked, calls_units}
use Rattle.value_literals.specs.Code.{list_class, methods_of}
use Rattle.value_literals.specs.Emitted.{Parts, parts_count, of_units, code_of}
use Rattle.value_literals.specs.Members.{AreMembers}
use Rattle.value_literals.specs.Universe.{fixed, of_made, options, of_sig, of_bean, of_recorder, of_names, of_used, of_unit, of_parts, universe}
use Rattle.value_literals.proofs.Weights.{weight_append, units_weight, calls_few}
use Rattle.recording_units.proofs.CallerLemmas.{pieces_at}
use Rattle.value_literals.proofs.Covers.{in_left, in_right}
use Rattle.value_literals.proofs.Total.{fills_all}
use Rattle.value_literals.specs.Bounds.{NamesAreFew, methods_count}

flat_weighs : {X : Type 0} (f : X → List Shown) (c : X → ℕ) → ((x : X) → weight one 1 (f x) ≡ c x) → (xs : List X) → weight one 1 (flat_map f xs) ≡ sum_by c xs
flat_weighs f c h [] = refl
flat_weighs f c h (x ∷ xs) = omega (arith, weight_append one 1 (f x) (flat_map f xs), h x, flat_weighs f c h xs, sum_by-cons c x xs)

four_each : {X : Type 0} (xs : List X) → sum_by (λ x. 4) xs ≡ 4 * length xs
four_each [] = refl
four_each {X} (x ∷ xs) = omega (arith, four_each xs, sum_by-cons (λ (y : X). 4) x xs)

sigs_weigh : (r : Option RecorderDecl) (ms : List MethodSig) → weight one 1 (options (of_sig r) ms) ≡ 4 + 4 * length ms
sigs_weigh r ms = weight_append one 1 (of_sig r None) (flat_map (λ m. of_sig r (Some m)) ms) ∙ omega (arith, flat_weighs (λ m. of_sig r (Some m)) (λ m. 4) (λ m. refl) ms, four_each ms)

recorder_weighs : (r : RecorderDecl) → weight one 1 (of_recorder (Some r)) ≡ 8 + 4 * length r.methods
recorder_weighs r = omega (arith, sigs_weigh (Some r) r.methods)

eight_each : (rs : List RecorderDecl) → sum_by (λ r. 8 + 4 * length r.methods) rs ≡ 8 * length rs + 4 * methods_count rs
eight_each [] = refl
eight_each (r ∷ rs) = omega (arith, eight_each rs, sum_by-cons (λ (s : RecorderDecl). 8 + 4 * length s.methods) r rs, sum_by-cons (λ (s : RecorderDecl). length s.methods) r rs)

names_weigh : (names : Names) → weight one 1 (of_names names) ≡ 16 + 4 * length names.beans + 8 * length names.recorders + 4 * methods_count names.recorders
names_weigh names =
    omega (
      arith,
      weight_append one 1 (of_made list_class) (options of_bean names.beans ++ options of_recorder names.recorders),
      weight_append one 1 (options of_bean names.beans) (options of_recorder names.recorders),
      weight_append one 1 (of_bean None) (flat_map (λ b. of_bean (Some b)) names.beans),
      weight_append one 1 (of_recorder None) (flat_map (λ r. of_recorder (Some r)) names.recorders),
      flat_weighs (λ b. of_bean (Some b)) (λ b. 4) (λ b. refl) names.beans,
      four_each names.beans,
      flat_weighs (λ r. of_recorder (Some r)) (λ r. 8 + 4 * length r.methods) recorder_weighs names.recorders,
      eight_each names.recorders,
    )

used_weighs : (names : Names) (class : List ℕ) (n : ℕ) (us : List Used) → weight one 1 (of_used names class n us) ≡ 3 * length us
used_weighs names class n [] = refl
used_weighs names class n (u ∷ us) = omega (arith, used_weighs names class (n + 1) us)

parts_weigh : (class : List ℕ) (j n : ℕ) → weight one 1 (of_parts class j n) ≡ 3 * n
parts_weigh class j zero = refl
parts_weigh class j (suc n) = omega (arith, parts_weigh class (j + 1) n)

fixed_weighs : (class : List ℕ) → weight one 1 (fixed class) ≡ 39
fixed_weighs class = refl

universe_weighs : (names : Names) (class : List ℕ) (w : Walked) →
    weight one 1 (universe names class w) ≡ 55 + 4 * length names.beans + 8 * length names.recorders + 4 * methods_count names.recorders + (3 * length w.0 + (units_weight names w.1 + 3 * parts_count w.1))
universe_weighs names class w =
    let parts = of_parts class 0 (parts_count w.1) in
    let units = flat_map (of_unit names) w.1 in
    let table = of_used names class 0 w.0 in
    omega (
      arith,
      weight_append one 1 (fixed class) (of_names names ++ (table ++ (units ++ parts))),
      weight_append one 1 (of_names names) (table ++ (units ++ parts)),
      weight_append one 1 table (units ++ parts),
      weight_append one 1 units parts,
      fixed_weighs class,
      names_weigh names,
      used_weighs names class 0 w.0,
      parts_weigh class 0 (parts_count w.1),
    )

pub universe_is_light : (names : Names) (class : List ℕ) (r : Recording) → NamesAreFew names → cells_of r.calls ≤ 8192 → weight one 1 (universe names class (calls_units r.step 0 r.calls [])) ≤ 59693
universe_is_light names class r few cells =
    let w = calls_units r.step 0 r.calls [] in
    let f = calls_few names r.step 0 r.calls [] in
    let parts : parts_count w.1 ≤ 82 = omega (arith, f.count, cells) in
    omega (arith, universe_weighs names class w, f.entries, cells, parts, few.beans, few.recorders, few.methods)

-- The class of a recording fills the pool, which never is full.
pub filled : (names : Names) (class : List ℕ) (r : Recording) (es : List Entry) → NamesAreFew names → cells_of r.calls ≤ 8192 → ReferRight es es → length es ≤ 1000 →
    (p : Parts) × (fs : List Entry) × (code_of names r class es ≡ Some (p, fs)) × Grows 3 (universe names class (calls_units r.step 0 r.calls [])) es fs × AreMembers names class (calls_units r.step 0 r.calls []) p fs
filled names class r es few cells b small =
    let w = calls_units r.step 0 r.calls [] in
    let us = universe names class w in
    let parts = of_parts class 0 (parts_count w.1) in
    let units = flat_map (of_unit names) w.1 in
    let table = of_used names class 0 w.0 in
    fills_all names class w.0 us
    (λ v i. in_left (fixed class) (of_names names ++ (table ++ (units ++ parts))) v i)
    (λ v i. in_right (fixed class) (of_names names ++ (table ++ (units ++ parts))) v (in_left (of_names names) (table ++ (units ++ parts)) v i))
    (λ v i. in_right (fixed class) (of_names names ++ (table ++ (units ++ parts))) v (in_right (of_names names) (table ++ (units ++ parts)) v (in_left table (units ++ parts) v i)))
    w.1 (pieces_at r.step r.calls)
    (λ v i. in_right (fixed class) (of_names names ++ (table ++ (units ++ parts))) v (in_right (of_names names) (table ++ (units ++ parts)) v (in_right table (units ++ parts) v (in_left units parts v i))))
    (λ v i. in_right (fixed class) (of_names names ++ (table ++ (units ++ parts))) v (in_right (of_names names) (table ++ (units ++ parts)) v (in_right table (units ++ parts) v (in_right units parts v i))))
    es tt b (omega (arith, universe_is_light names class r few cells, left_at_most one 1 us es, small))

pub record Told (names : Names) (class : List ℕ) (r : Recording) (p : Parts) (fs : List Entry) : Type 0 where
  pub refer : ReferRight fs fs
  pub members : AreMembers names class (calls_units r.step 0 r.calls []) p fs
  pub room : length fs ≤ 60693

same_pair : {A B : Type 0} (o : Option (A × B)) (q p : A) (gs fs : B) → o ≡ Some (q, gs) → o ≡ Some (p, fs) → (q ≡ p) × (gs ≡ fs)
same_pair None q p gs fs e f = absurd cc
same_pair {A} {B} (Some x) q p gs fs e f =
    let a : x ≡ (q, gs) = cc in
    let b : x ≡ (p, fs) = cc in
    (ap (λ (y : A × B). y.0) (sym a ∙ b), ap (λ (y : A × B). y.1) (sym a ∙ b))

told_same : (names : Names) (class : List ℕ) (r : Recording) (p q : Parts) (fs gs : List Entry) → (q ≡ p) × (gs ≡ fs) → Told names class r q gs → Told names class r p fs
told_same names class r p q fs gs same t = subst (λ v. Told names class r v fs) same.0 (subst (λ v. Told names class r q v) same.1 t)

-- what was made is as the law says
pub told : (names : Names) (class : List ℕ) (r : Recording) (es : List Entry) (p : Parts) (fs : List Entry) → NamesAreFew names → cells_of r.calls ≤ 8192 → ReferRight es es → length es ≤ 1000 → code_of names r class es ≡ Some (p, fs) → Told names class r p fs
told names class r es p fs few cells b small e =
    let f = filled names class r es few cells b small in
    let us = universe names class (calls_units r.step 0 r.calls []) in
    told_same names class r p f.0 fs f.1 (same_pair (code_of names r class es) f.0 p f.1 fs f.2 e)
    (record { refer = f.3.refer; members = f.4; room = omega (arith, f.3.kept one 1, left_at_most one 1 us es, universe_is_light names class r few cells, size_one es, size_one f.1, small) })
