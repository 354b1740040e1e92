-- The least of all places stands at the top.
use Rattle.std.proofs.Common.{◌≡◌, ◌≢◌, ℕ, zero, suc, ◌+◌, ◌*◌, ◌-◌, ◌<◌, ◌≤◌, List, length, get_or, set, Bool, true, false, cond, refl, sym, ap, ◌∙◌, subst, arith, ◌⊎◌, inl, inr}
use Rattle.std.proofs.lemmas.Bool.{cases_lt, cases_eq}
use Rattle.std.proofs.lemmas.List.{get_or-set_same, get_or-set_other, get_or_past}
use Rattle.step_set.specs.Members.{Has}
use Rattle.step_set.specs.Places.{IsLesser, place, HoldsLesser, AreLesser, own, AreFilled}

-- the place above
pub up : (j : ℕ) → (k : ℕ) × ((j ≡ 2 * k) ⊎ (j ≡ 2 * k + 1))
up zero = (0, inl refl)
up (suc zero) = (0, inr refl)
up (suc (suc j)) = let r = up j in (suc r.0, elim r.1 [ inl e ↦ inl (omega (arith, e)) | inr e ↦ inr (omega (arith, e)) ])

module _ (bound : ℕ) (places : List ℕ) (less : AreLesser bound places) where
  top_below : (fuel j : ℕ) → j ≤ fuel → 1 ≤ j → j < bound + bound → place places 1 ≤ place places j
  top_below zero j le one lt = absurd (omega (arith, le, one))
  top_below (suc fuel) j le one lt = elim (cases_eq j 1) [
    | inl e ↦ subst (λ n. place places 1 ≤ place places n) (sym e) (omega arith)
    | inr ne ↦
        let r = up j in
        let k : ℕ = r.0 in
        let high : 1 ≤ k = elim r.1 [ inl e ↦ omega (arith, e, one, ne) | inr e ↦ omega (arith, e, one, ne) ] in
        let within : k < bound = elim r.1 [ inl e ↦ omega (arith, e, lt) | inr e ↦ omega (arith, e, lt) ] in
        let short : k ≤ fuel = elim r.1 [ inl e ↦ omega (arith, e, le, high) | inr e ↦ omega (arith, e, le, high) ] in
        let above : place places 1 ≤ place places k = top_below fuel k short high (omega (arith, within)) in
        let here = less k high within in
        elim r.1 [
          | inl e ↦ let b : place places k ≤ place places (2 * k) = here.left_above in subst (λ n. place places 1 ≤ place places n) (sym e) (omega (arith, above, b))
          | inr e ↦ let b : place places k ≤ place places (2 * k + 1) = here.right_above in subst (λ n. place places 1 ≤ place places n) (sym e) (omega (arith, above, b))
        ]
  ]

  pub top_least : (s : ℕ) → s < bound → place places 1 ≤ place places (bound + s)
  top_least s lt = top_below (bound + s) (bound + s) (omega arith) (omega (arith, lt)) (omega (arith, lt))

  found : (fuel i : ℕ) → bound + bound ≤ i + fuel → 1 ≤ i → i < bound + bound → (s : ℕ) × (s < bound) × (place places (bound + s) ≡ place places i)
  found zero i le one lt = absurd (omega (arith, le, lt))
  found (suc fuel) i le one lt = elim (cases_lt i bound) [
    | inl l ↦ elim (less i one l).one [
      | inl e ↦ let r = found fuel (2 * i) (omega (arith, le, one)) (omega (arith, one)) (omega (arith, l)) in (r.0, r.1, r.2 ∙ sym e)
      | inr e ↦ let r = found fuel (2 * i + 1) (omega (arith, le, one)) (omega (arith, one)) (omega (arith, l)) in (r.0, r.1, r.2 ∙ sym e)
    ]
    | inr l ↦ (i - bound, omega (arith, l, lt), ap (place places) (let e : bound + (i - bound) ≡ i = omega (arith, l) in e))
  ]

  pub top_found : 1 ≤ bound → (s : ℕ) × (s < bound) × (place places (bound + s) ≡ place places 1)
  top_found one = found (bound + bound) 1 (omega arith) (omega arith) (omega (arith, one))

has_within : (members : List Bool) (s : ℕ) → Has members s → s < length members
has_within members s has = elim (cases_lt s (length members)) [
  | inl l ↦ l
  | inr l ↦ absurd (let z : false ≡ true = sym (get_or_past members s false l) ∙ has in cc)
]

own_has : (members : List Bool) (s : ℕ) → Has members s → own members s ≡ s
own_has members s has = ap (λ b. cond b s (length members)) has

own_cases : (members : List Bool) (s : ℕ) (b : Bool) → get_or members s false ≡ b → own members s < length members → Has members s
own_cases members s true q lt = q
own_cases members s false q lt = absurd (let e : own members s ≡ length members = ap (λ b. cond b s (length members)) q in omega (arith, lt, e))

pub least_member : (members : List Bool) (places : List ℕ) → AreFilled members places → place places 1 < length members → Has members (place places 1)
least_member members places are lt =
    let r = top_found (length members) places are.lesser (omega (arith, lt)) in
    let e : own members r.0 ≡ place places 1 = sym (are.steps r.0 r.1) ∙ r.2 in
    let has : Has members r.0 = own_cases members r.0 (get_or members r.0 false) refl (omega (arith, lt, e)) in
    subst (Has members) (sym (own_has members r.0 has) ∙ e) has

pub least_below : (members : List Bool) (places : List ℕ) → AreFilled members places → (s : ℕ) → Has members s → place places 1 ≤ s
least_below members places are s has =
    let within : s < length members = has_within members s has in
    let le : place places 1 ≤ place places (length members + s) = top_least (length members) places are.lesser s within in
    let e : place places (length members + s) ≡ s = are.steps s within ∙ own_has members s has in
    omega (arith, le, e)

-- one place on the way to the top
pub climbed : (bound at : ℕ) (places : List ℕ) (m : ℕ) → 1 ≤ at → at < bound → length places ≡ bound + bound
    → ((i : ℕ) → 1 ≤ i → i < bound → i ≢ at → HoldsLesser places i) → IsLesser (place places (2 * at)) (place places (2 * at + 1)) m
    → (k : ℕ) → (at ≡ 2 * k) ⊎ (at ≡ 2 * k + 1) → (i : ℕ) → 1 ≤ i → i < bound → i ≢ k → HoldsLesser (set places at m) i
climbed bound at places m one lt long others here k above i low high ne = elim (cases_eq i at) [
  | inl e ↦ subst (HoldsLesser (set places at m)) (sym e)
      (rw (get_or-set_other places at (2 * at) m 0 (λ q. omega (arith, q, one)), get_or-set_other places at (2 * at + 1) m 0 (λ q. omega (arith, q)), get_or-set_same places at m 0 (omega (arith, long, lt))) here)
  | inr no_at ↦
      let left : 2 * i ≢ at = λ q. elim above [ inl a ↦ ne (omega (arith, q, a)) | inr a ↦ omega (arith, q, a) ] in
      let right : 2 * i + 1 ≢ at = λ q. elim above [ inl a ↦ omega (arith, q, a) | inr a ↦ ne (omega (arith, q, a)) ] in
      rw (get_or-set_other places at (2 * i) m 0 left, get_or-set_other places at (2 * i + 1) m 0 right, get_or-set_other places at i m 0 no_at) (others i low high no_at)
]

-- what stands at the top, where there are places
pub top_member : (members now : List Bool) (places shown : List ℕ) (top : ℕ) → AreFilled members places → members ≡ now → shown ≡ places → top ≡ place shown 1 → top < length members → Has now top
top_member members now places shown top are view show at lt =
    let e : place places 1 ≡ top = ap (λ l. place l 1) (sym show) ∙ sym at in
    subst (λ l. Has l top) view (subst (Has members) e (least_member members places are (omega (arith, lt, e))))

pub top_first : (members now : List Bool) (places shown : List ℕ) (top : ℕ) → AreFilled members places → members ≡ now → shown ≡ places → top ≡ place shown 1 → (s : ℕ) → Has now s → top ≤ s
top_first members now places shown top are view show at s has =
    let e : place places 1 ≡ top = ap (λ l. place l 1) (sym show) ∙ sym at in
    let le : place places 1 ≤ s = least_below members places are s (subst (λ l. Has l s) (sym view) has) in
    omega (arith, le, e)

pub top_past : (members now : List Bool) (places shown : List ℕ) (top : ℕ) → AreFilled members places → members ≡ now → shown ≡ places → top ≡ place shown 1 → (top < length members → ⊥) → (s : ℕ) → Has now s → ⊥
top_past members now places shown top are view show at past s has =
    let le : top ≤ s = top_first members now places shown top are view show at s has in
    let lt : s < length members = has_within members s (subst (λ l. Has l s) (sym view) has) in
    past (omega (arith, le, lt))
