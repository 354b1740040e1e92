use Rattle.std.proofs.Common.{◌≡◌, ℕ, suc, ◌+◌, ◌-◌, ◌<◌, ◌≤◌, Bool, true, false, List, [], ◌∷◌, ◌++◌, length, refl, Contains, get_or, take, drop, reverse, arith, sym, ◌∙◌, ap, subst, ◌⊎◌, inl, inr, ◌↔◌}
use Rattle.std.proofs.lemmas.List.Elements.{Contains-append_left, Contains-get_or, Contains-append_cases, Contains-append_right}
use Rattle.std.proofs.lemmas.List.{get_or_default, length_push, get_or_push, get_or_append_left, length-drop, get_or-drop, take-append-drop}
use Rattle.std.specs.List.Sorted.{IsStrictlyIncreasing}
use Rattle.chain_builder.proofs.FaultLemmas.{rising_le}
use Rattle.std.proofs.lemmas.Bool.{cases_lt, cases_eq}
use Rattle.chain_builder.specs.Rows.{row}
use Rattle.item_types.specs.declared.step.StepDecl.{StepDecl}
use Rattle.chain_builder.specs.Rows.{AreBelow}
use Rattle.chain_builder.specs.Marks.{Numbers}
use Rattle.chain_builder.specs.Core.{AreOutside, AreLeftWithOne}
use Rattle.chain_builder.specs.Edge.{HasEdge}
use Rattle.chain_builder.specs.ChainFaults.{IsInCore, IsNext, IsLeastWith, IsCycle, HasNoCycle}
use Rattle.chain_builder.proofs.ListLemmas.{none_in_nil}
use Rattle.chain_builder.proofs.NeededLemmas.{cons_cases}
use Rattle.chain_builder.proofs.RowLemmas.{row_within}
use Rattle.chain_builder.specs.Turn.{IsFirstLeft, IsReturn, IsTurned}

-- the walk so far, which goes on to `step`
pub record IsWalking (rows : List (List ℕ)) (removed : List ℕ) (start : ℕ) (walk : List ℕ) (step : ℕ) : Type 0 where
  pub starts : 0 < length walk → get_or walk 0 0 ≡ start
  pub goes : (k : ℕ) → k + 1 < length walk → IsFirstLeft (row rows (get_or walk k 0)) removed (get_or walk (k + 1) 0)
  pub apart : (j k : ℕ) → j < k → k < length walk → get_or walk j 0 ≡ get_or walk k 0 → ⊥
  pub on : 0 < length walk → IsFirstLeft (row rows (get_or walk (length walk - 1) 0)) removed step
  pub begins : length walk ≡ 0 → step ≡ start
  pub stays : Contains removed step → ⊥

pub walking_starts : (rows : List (List ℕ)) (removed : List ℕ) (start : ℕ) → (Contains removed start → ⊥) → IsWalking rows removed start [] start
walking_starts rows removed start stays = record {
  starts = λ h. absurd (omega arith);
  goes = λ k h. absurd (omega arith);
  apart = λ j k l h e. absurd (omega arith);
  on = λ h. absurd (omega arith);
  begins = λ h. refl;
  stays = stays;
}

pub walking_more : (rows : List (List ℕ)) (removed : List ℕ) (start : ℕ) (walk : List ℕ) (step next : ℕ) → (Contains walk step → ⊥) → IsFirstLeft (row rows step) removed next → IsWalking rows removed start walk step → IsWalking rows removed start (walk ++ step ∷ []) next
walking_more rows removed start walk step next fresh f w =
    let len : length (walk ++ step ∷ []) ≡ length walk + 1 = length_push walk step in
    let last : (k : ℕ) → k ≡ length walk → get_or (walk ++ step ∷ []) k 0 ≡ step = λ k e. get_or_push walk step 0 k (sym e) in
    let old : (k : ℕ) → k < length walk → get_or (walk ++ step ∷ []) k 0 ≡ get_or walk k 0 = λ k h. get_or_append_left walk (step ∷ []) 0 k h in
    record {
      starts = λ h. elim (cases_lt 0 (length walk)) [
        | inl some ↦ old 0 some ∙ w.starts some
        | inr none ↦ last 0 (omega arith) ∙ w.begins (omega arith)
      ];
      goes = λ k h. elim (cases_lt (k + 1) (length walk)) [
        | inl inside ↦ subst (IsFirstLeft (row rows (get_or (walk ++ step ∷ []) k 0)) removed) (sym (old (k + 1) inside)) (subst (λ z. IsFirstLeft (row rows z) removed (get_or walk (k + 1) 0)) (sym (old k (omega arith))) (w.goes k inside))
        | inr at ↦
            let e : k + 1 ≡ length walk = omega arith in
            let d : length walk - 1 ≡ k = omega arith in
            subst (IsFirstLeft (row rows (get_or (walk ++ step ∷ []) k 0)) removed) (sym (last (k + 1) e)) (subst (λ z. IsFirstLeft (row rows z) removed step) (sym (old k (omega arith) ∙ ap (λ z. get_or walk z 0) (sym d))) (w.on (omega arith)))
      ];
      apart = λ j k lt h e. elim (cases_lt k (length walk)) [
        | inl inside ↦ w.apart j k lt inside (sym (old j (omega arith)) ∙ (e ∙ old k inside))
        | inr at ↦ let there : j < length walk = omega arith in fresh (subst (Contains walk) (sym (old j there) ∙ (e ∙ last k (omega arith))) (Contains-get_or walk j 0 there))
      ];
      on = λ h. subst (λ z. IsFirstLeft (row rows z) removed next) (sym (last (length (walk ++ step ∷ []) - 1) (omega arith))) f;
      begins = λ h. absurd (omega arith);
      stays = f.stays;
    }

pub walking_back : (rows : List (List ℕ)) (removed : List ℕ) (start : ℕ) (walk : List ℕ) (step : ℕ) → Contains walk step → IsWalking rows removed start walk step → IsReturn rows removed start walk step
walking_back rows removed start walk step again w =
    let inside : again.0 < length walk = again.1 in
    let some : 0 < length walk = omega arith in
    record { some = some; starts = w.starts some; goes = w.goes; apart = w.apart; ends = w.on some; again = again }

pub first_left_is : (row removed : List ℕ) (place : ℕ) → IsStrictlyIncreasing row → place < length row → ((j : ℕ) → j < place → Contains removed (get_or row j 0)) → (Contains removed (get_or row place 0) → ⊥) → IsFirstLeft row removed (get_or row place 0)
first_left_is row removed place up within passed left = record {
  there = Contains-get_or row place 0 within;
  stays = left;
  least = λ q c stays.
      let inside : c.0 < length row = c.1 in
      let is : get_or row c.0 0 ≡ q = get_or_default row c.0 0 q inside ∙ c.2 in
      elim (cases_lt c.0 place) [
        | inl before ↦ absurd (stays (subst (Contains removed) is (passed c.0 before)))
        | inr from ↦ elim (cases_eq c.0 place) [
          | inl e ↦ let z : get_or row place 0 ≡ q = ap (λ n. get_or row n 0) (sym e) ∙ is in omega arith
          | inr ne ↦ let lt : get_or row place 0 < get_or row c.0 0 = rising_le row up place c.0 (omega arith) inside in omega arith
        ]
      ];
}

pub one_is_left : (row removed : List ℕ) (place : ℕ) → place ≤ length row → ((j : ℕ) → j < place → Contains removed (get_or row j 0)) → ((p : ℕ) × Contains row p × (Contains removed p → ⊥)) → place < length row
one_is_left row removed place le passed f = elim (cases_lt place (length row)) [
  | inl lt ↦ lt
  | inr ge ↦ let inside : f.1.0 < length row = f.1.1 in absurd (f.2 (subst (Contains removed) (get_or_default row f.1.0 0 f.0 inside ∙ f.1.2) (passed f.1.0 (omega arith))))
]

pub is_turned : (walk : List ℕ) (back : ℕ) (b : List ℕ) (m : ℕ) (cycle : List ℕ) → b ≡ reverse (drop back walk) → m < length b → ((k : ℕ) → k < length b → get_or b m 0 ≤ get_or b k 0) → cycle ≡ drop m b ++ take m b → IsTurned walk back cycle
is_turned walk back b m cycle e within least is =
    let head : get_or cycle 0 0 ≡ get_or b m 0 = ap (λ (xs : List ℕ). get_or xs 0 0) is ∙ (get_or_append_left (drop m b) (take m b) 0 0 (omega (arith, length-drop m b)) ∙ (get_or-drop m b 0 0 ∙ ap (λ n. get_or b n 0) (omega arith))) in
    let bound : (s : ℕ) → Contains b s → get_or cycle 0 0 ≤ s = λ s c. let inside : c.0 < length b = c.1 in let z : get_or b c.0 0 ≡ s = get_or_default b c.0 0 s inside ∙ c.2 in let y : get_or b m 0 ≤ get_or b c.0 0 = least c.0 inside in omega arith in
    record {
      front = take m b;
      rest = drop m b;
      turned = sym e ∙ sym (take-append-drop m b);
      is = is;
      least = λ s c. elim (Contains-append_cases (drop m b) (take m b) s (subst (λ (xs : List ℕ). Contains xs s) is c)) [
        | inl h ↦ bound s (subst (λ (xs : List ℕ). Contains xs s) (take-append-drop m b) (Contains-append_right (take m b) (drop m b) s h))
        | inr h ↦ bound s (subst (λ (xs : List ℕ). Contains xs s) (take-append-drop m b) (Contains-append_left (take m b) (drop m b) s h))
      ];
    }

holds : {P : Type 0} → P ⊎ (P → ⊥) → Bool
holds (inl p) = true
holds (inr n) = false

holds_from : {P : Type 0} (d : P ⊎ (P → ⊥)) → holds d ≡ true → P
unfolding holds
holds_from (inl p) e = p
holds_from (inr n) e = absurd (let z : false ≡ true = e in cc)

holds_to : {P : Type 0} (d : P ⊎ (P → ⊥)) → P → holds d ≡ true
unfolding holds
holds_to (inl q) p = refl
holds_to (inr n) p = absurd (n p)

in_or_not : (xs : List ℕ) (s : ℕ) → Contains xs s ⊎ (Contains xs s → ⊥)
in_or_not [] s = inr (λ h. none_in_nil s h)
in_or_not (x ∷ xs) s = elim (cases_eq s x) [
  | inl e ↦ inl (0, omega arith, sym e)
  | inr ne ↦ elim (in_or_not xs s) [
    | inl h ↦ let inside : h.0 < length xs = h.1 in inl (suc h.0, omega arith, h.2)
    | inr out ↦ inr (λ h. elim (cons_cases x xs s h.0 h.1 h.2) [ inl e ↦ ne e | inr in' ↦ out in' ])
  ]
]

abbrev IsLeft : ℕ → List ℕ → ℕ → Type 0
IsLeft n removed s = (s < n) × (Contains removed s → ⊥)

left_or_not : (n : ℕ) (removed : List ℕ) (s : ℕ) → IsLeft n removed s ⊎ (IsLeft n removed s → ⊥)
left_or_not n removed s = elim (cases_lt s n) [
  | inr ge ↦ inr (λ h. let lt : s < n = h.0 in absurd (omega arith))
  | inl lt ↦ elim (in_or_not removed s) [ inl gone ↦ inr (λ h. h.1 gone) | inr stays ↦ inl (lt, stays) ]
]

-- what is left is the core
pub in_core : (steps : List StepDecl) (finals : List ℕ) (into : List (List ℕ)) (removed : Numbers) → ((s p : ℕ) → Contains (row into s) p ↔ HasEdge steps finals p s) → AreLeftWithOne into removed → (s : ℕ) → s < length into → (Contains removed.items s → ⊥) → IsInCore steps finals s
in_core steps finals into removed edges left s lt stays = (
  (λ r. holds (left_or_not (length into) removed.items r)),
  (λ r in'. let h = holds_from (left_or_not (length into) removed.items r) in' in
      let f = left r h.0 h.1 in
      (f.0, holds_to (left_or_not (length into) removed.items f.0) (f.1, f.3), (edges r f.0).0 f.2)),
  holds_to (left_or_not (length into) removed.items s) (lt, stays),
)

pub core_is_left : (steps : List StepDecl) (finals : List ℕ) (into : List (List ℕ)) (removed : Numbers) → ((s p : ℕ) → Contains (row into s) p ↔ HasEdge steps finals p s) → AreOutside into removed → (s : ℕ) → IsInCore steps finals s → (s < length into) × (Contains removed.items s → ⊥)
core_is_left steps finals into removed edges outside s c =
    let f = c.1 s c.2 in
    (row_within into s f.0 ((edges s f.0).1 f.2), λ gone. outside c.0 (λ r in'. let g = c.1 r in' in (g.0, g.1, (edges r g.0).1 g.2)) s c.2 gone)

-- the facts that the search for a cycle stands on
pub record KnowsCore (steps : List StepDecl) (finals : List ℕ) (into : List (List ℕ)) (removed : Numbers) : Type 0 where
  pub edges : (s p : ℕ) → Contains (row into s) p ↔ HasEdge steps finals p s
  pub below : AreBelow into (length into)
  pub outside : AreOutside into removed
  pub left : AreLeftWithOne into removed

pub next_is : (steps : List StepDecl) (finals : List ℕ) (into : List (List ℕ)) (removed : Numbers) (s p : ℕ) → KnowsCore steps finals into removed → IsFirstLeft (row into s) removed.items p → IsNext steps finals s p
next_is steps finals into removed s p k f = (
  (in_core steps finals into removed k.edges k.left p (k.below s p f.there) f.stays, (k.edges s p).0 f.there),
  λ q h. f.least q ((k.edges s q).1 h.1) (core_is_left steps finals into removed k.edges k.outside q h.0).1,
)

pub no_cycle : (steps : List StepDecl) (finals : List ℕ) (into : List (List ℕ)) (removed : Numbers) → KnowsCore steps finals into removed → ((s : ℕ) → s < length into → Contains removed.items s) → HasNoCycle steps finals
no_cycle steps finals into removed k all s c = let h = core_is_left steps finals into removed k.edges k.outside s c in h.1 (all s h.0)

pub is_cycle : (steps : List StepDecl) (finals : List ℕ) (into : List (List ℕ)) (removed : Numbers) (start : ℕ) (walk : List ℕ) (step back : ℕ) (cycle : List ℕ) → KnowsCore steps finals into removed → start < length into → (Contains removed.items start → ⊥) → ((s : ℕ) → s < start → Contains removed.items s) → IsReturn into removed.items start walk step → back < length walk → get_or walk back 0 ≡ step → IsTurned walk back cycle → IsCycle steps finals cycle
is_cycle steps finals into removed start walk step back cycle k within stays least r inside at t = record {
  walk = walk;
  back = back;
  walked = record {
    starts = λ some. subst (IsLeastWith (IsInCore steps finals)) (sym r.starts) (
      in_core steps finals into removed k.edges k.left start within stays,
      λ y c. elim (cases_lt y start) [ inl lt ↦ absurd ((core_is_left steps finals into removed k.edges k.outside y c).1 (least y lt)) | inr ge ↦ ge ],
    );
    goes = λ j h. next_is steps finals into removed (get_or walk j 0) (get_or walk (j + 1) 0) k (r.goes j h);
    apart = r.apart;
  };
  within = inside;
  again = subst (IsNext steps finals (get_or walk (length walk - 1) 0)) (sym at) (next_is steps finals into removed (get_or walk (length walk - 1) 0) step k r.ends);
  front = t.front;
  rest = t.rest;
  turned = t.turned;
  is = t.is;
  least = t.least;
}
