-- What fits is numbered.
use Rattle.std.proofs.Common.{◌≡◌, ◌∙◌, ◌≤◌, ◌<◌, ◌^◌, inl, inr, sym, arith, ℕ, suc, true, false, ◌&&◌, List, [], ◌∷◌, map, length}
use Rattle.std.specs.List.{All, list_all}
use Rattle.std.specs.Prelude.{nat_le, nat_lt, IsTrue}
use Rattle.std.proofs.lemmas.Bool.Decides.{leb_tells}
use Rattle.std.proofs.lemmas.List.{length-map}
use Rattle.std.proofs.lemmas.List.Elements.{All-cons, All-nil, All-contains}
use Rattle.item_types.specs.Numbered.{IsNumbered}
use Rattle.item_types.specs.declared.decl.ItemDecl.{ItemDecl}
use Rattle.item_types.specs.declared.decl.Names.{Names}
use Rattle.item_types.specs.declared.step.Consume.{Consume}
use Rattle.item_types.specs.declared.step.Produce.{Produce}
use Rattle.item_types.specs.declared.step.StepDecl.{StepDecl}
use Rattle.ext_draft.specs.Names.{is_name}
use Rattle.project_fit.specs.Fits.{are_names, items_fit, item_fits, beans_fit, recorders_fit, names_fit, none_twice, no_number_twice, numbers_fit, step_numbers_fit, step_fits, steps_fit, full_name, fits}
use Rattle.project_fit.proofs.Apart.{and-parts}

few : (n limit : ℕ) → nat_le n limit ≡ true → n ≤ limit
few n limit is = elim (leb_tells n limit) [ inl e ↦ e.1 | inr f ↦ let no = f.0 in absurd (let e : true ≡ false = sym is ∙ no in cc) ]

below : (n size : ℕ) → nat_lt n size ≡ true → n < size
below n size is = elim (leb_tells (suc n) size) [ inl e ↦ e.1 | inr f ↦ let no = f.0 in absurd (let e : true ≡ false = sym is ∙ no in cc) ]

all-below : {A : Type 0} (item : A → ℕ) (size : ℕ) (xs : List A) → list_all (λ n. nat_lt n size) (map item xs) ≡ true → All (λ x. item x < size) xs
all-below item size [] is = All-nil (λ x. item x < size)
all-below item size (x ∷ xs) is =
    let parts = and-parts (nat_lt (item x) size) (list_all (λ n. nat_lt n size) (map item xs)) is in
    All-cons (λ y. item y < size) x xs (below (item x) size parts.0) (all-below item size xs parts.1)

numbers-below : {A : Type 0} (item : A → ℕ) (size limit : ℕ) (xs : List A) → numbers_fit size limit (map item xs) ≡ true → All (λ x. item x < size) xs
numbers-below item size limit xs is =
    let parts = and-parts (nat_le (length (map item xs)) limit) (list_all (λ n. nat_lt n size) (map item xs) && no_number_twice [] (map item xs)) is in
    all-below item size xs (and-parts (list_all (λ n. nat_lt n size) (map item xs)) (no_number_twice [] (map item xs)) parts.1).0

record IsKnown (size : ℕ) (s : StepDecl) : Type 0 where
  consumed : All (λ (c : Consume). c.item < size) s.consumes
  produced : All (λ (p : Produce). p.item < size) s.produces

known-step : (size : ℕ) (s : StepDecl) → step_fits size s ≡ true → IsKnown size s
unfolding step_numbers_fit
known-step size s is =
    let named = and-parts (is_name s.ext) (is_name s.name && step_numbers_fit size s) is in
    let numbered = and-parts (is_name s.name) (step_numbers_fit size s) named.1 in
    let parts = and-parts (numbers_fit size 64 (map (λ (c : Consume). c.item) s.consumes)) (numbers_fit size 64 (map (λ (p : Produce). p.item) s.produces)) numbered.1 in
    record {
      consumed = numbers-below (λ (c : Consume). c.item) size 64 s.consumes parts.0;
      produced = numbers-below (λ (p : Produce). p.item) size 64 s.produces parts.1;
    }

known-steps : (size : ℕ) (steps : List StepDecl) → list_all (step_fits size) steps ≡ true → All (IsKnown size) steps
known-steps size [] is = All-nil (IsKnown size)
known-steps size (s ∷ steps) is =
    let parts = and-parts (step_fits size s) (list_all (step_fits size) steps) is in
    All-cons (IsKnown size) s steps (known-step size s parts.0) (known-steps size steps parts.1)

record AreKnown (size : ℕ) (steps : List StepDecl) : Type 0 where
  few_steps : length steps ≤ 2048
  each : All (IsKnown size) steps

steps-known : (size : ℕ) (steps : List StepDecl) → steps_fit size steps ≡ true → AreKnown size steps
unfolding steps_fit
steps-known size steps is =
    let parts = and-parts (nat_le (length steps) 2048) (list_all (step_fits size) steps && none_twice [] (map full_name steps)) is in
    record {
      few_steps = few (length steps) 2048 parts.0;
      each = known-steps size steps (and-parts (list_all (step_fits size) steps) (none_twice [] (map full_name steps)) parts.1).0;
    }

items-few : (names : Names) → names_fit names ≡ true → length names.items ≤ 2048
unfolding names_fit
items-few names is =
    let items = and-parts (items_fit names.items) (beans_fit names.beans && recorders_fit names.recorders) is in
    let named = and-parts (are_names 2048 (map (λ (i : ItemDecl). i.name) names.items)) (list_all item_fits names.items) items.0 in
    let parts = and-parts (nat_le (length (map (λ (i : ItemDecl). i.name) names.items)) 2048) (list_all is_name (map (λ (i : ItemDecl). i.name) names.items) && none_twice [] (map (λ (i : ItemDecl). i.name) names.items)) named.0 in
    let small = few (length (map (λ (i : ItemDecl). i.name) names.items)) 2048 parts.0 in
    omega (arith, small, length-map names.items (λ (i : ItemDecl). i.name))

below-power : (n : ℕ) → n ≤ 2048 → n < 2 ^ 32
below-power n small = omega (arith, small)

all-finals : (size : ℕ) (ns : List ℕ) → list_all (λ n. nat_lt n size) ns ≡ true → All (λ (n : ℕ). n < size) ns
all-finals size [] is = All-nil (λ (n : ℕ). n < size)
all-finals size (n ∷ ns) is =
    let parts = and-parts (nat_lt n size) (list_all (λ m. nat_lt m size) ns) is in
    All-cons (λ (m : ℕ). m < size) n ns (below n size parts.0) (all-finals size ns parts.1)

finals-below : (size : ℕ) (finals : List ℕ) → numbers_fit size 2048 finals ≡ true → All (λ (n : ℕ). n < size) finals
finals-below size finals is =
    let parts = and-parts (nat_le (length finals) 2048) (list_all (λ n. nat_lt n size) finals && no_number_twice [] finals) is in
    all-finals size finals (and-parts (list_all (λ n. nat_lt n size) finals) (no_number_twice [] finals) parts.1).0

pub fit-numbered : (names : Names) (steps : List StepDecl) (finals : List ℕ) → IsTrue (fits names steps finals) → IsNumbered steps names.items finals
fit-numbered names steps finals is =
    let size : ℕ = length names.items in
    let declared = and-parts (names_fit names) (steps_fit size steps && numbers_fit size 2048 finals) is in
    let rest = and-parts (steps_fit size steps) (numbers_fit size 2048 finals) declared.1 in
    let known = steps-known size steps rest.0 in
    let wanted : All (λ (n : ℕ). n < size) finals = finals-below size finals rest.1 in
    record {
      few_steps = below-power _ known.few_steps;
      few_items = below-power _ (items-few names declared.0);
      consumed = λ s c in_steps in_list. All-contains (λ (k : Consume). k.item < size) s.consumes c (All-contains (IsKnown size) steps s known.each in_steps).consumed in_list;
      produced = λ s p in_steps in_list. All-contains (λ (k : Produce). k.item < size) s.produces p (All-contains (IsKnown size) steps s known.each in_steps).produced in_list;
      wanted = λ t in_list. All-contains (λ (n : ℕ). n < size) finals t wanted in_list;
    }
