-- Members of sets that change.
use Rattle.std.proofs.Common.{◌≡◌, ◌↔◌, ℕ, zero, suc, ◌<◌, ◌+◌, List, [], ◌∷◌, ◌++◌, Bool, true, false, length, get_or, set, take, Contains, refl, sym, ◌∙◌, subst, arith, ◌⊎◌, inl, inr}
use Rattle.std.proofs.lemmas.Bool.{cases_eq}
use Rattle.std.proofs.lemmas.List.{take_more, get_or-set_same, get_or-set_other}
use Rattle.std.proofs.lemmas.List.Elements.{Contains-append_cases, Contains-append_left, Contains-append_right}
use Rattle.step_set.specs.Members.{Has, IsWith, IsWithout, IsWithAll}

in_none : (x : ℕ) → Contains [] x → ⊥
in_none x c = let inside : c.0 < 0 = c.1 in omega arith

in_one : (x : ℕ) → Contains (x ∷ []) x
in_one x = (0, omega arith, refl)

at_one : (x s k : ℕ) → k < length (x ∷ []) → get_or (x ∷ []) k s ≡ s → s ≡ x
at_one x s zero lt q = sym q
at_one x s (suc k) lt q = absurd (omega (arith, lt))

one_is : (x s : ℕ) → Contains (x ∷ []) s → s ≡ x
one_is x s c = at_one x s c.0 c.1 c.2

pub with_one : (set_ : List Bool) (x : ℕ) → x < length set_ → IsWith set_ x (set set_ x true)
with_one old x lt s = elim (cases_eq s x) [
  | inl e ↦ (λ h. inr e, λ w. subst (Has (set old x true)) (sym e) (get_or-set_same old x true false lt))
  | inr ne ↦
      let same : get_or (set old x true) s false ≡ get_or old s false = get_or-set_other old x s true false ne in
      (λ h. inl (sym same ∙ h), λ w. elim w [ inl o ↦ same ∙ o | inr e ↦ absurd (ne e) ])
]

pub without_one : (old : List Bool) (x : ℕ) → x < length old → IsWithout old x (set old x false)
without_one old x lt s = elim (cases_eq s x) [
  | inl e ↦ (
    λ h. absurd (let z : false ≡ true = sym (get_or-set_same old x false false lt) ∙ subst (Has (set old x false)) e h in cc),
    λ w. absurd (w.1 e),
  )
  | inr ne ↦
      let same : get_or (set old x false) s false ≡ get_or old s false = get_or-set_other old x s false false ne in
      (λ h. (sym same ∙ h, ne), λ w. same ∙ w.0)
]

pub with_none : (set_ : List Bool) → IsWithAll set_ [] set_
with_none old s = (λ h. inl h, λ w. elim w [ inl h ↦ h | inr n ↦ absurd (in_none s n) ])

pub with_more : (old mid new : List Bool) (steps : List ℕ) (i : ℕ) → i < length steps → IsWithAll old (take i steps) mid → IsWith mid (get_or steps i 0) new → IsWithAll old (take (i + 1) steps) new
with_more old mid new steps i lt one two s =
    let P : List ℕ → Type 0 = λ l. Has new s ↔ (Has old s ⊎ Contains l s) in
    subst P (sym (take_more steps i 0 lt)) (
      λ c. elim ((two s).0 c) [
        | inl m ↦ elim ((one s).0 m) [ inl o ↦ inl o | inr t ↦ inr (Contains-append_left (take i steps) (get_or steps i 0 ∷ []) s t) ]
        | inr e ↦ inr (subst (Contains (take i steps ++ get_or steps i 0 ∷ [])) (sym e) (Contains-append_right (take i steps) (get_or steps i 0 ∷ []) (get_or steps i 0) (in_one (get_or steps i 0))))
      ],
      λ w. elim w [
        | inl o ↦ (two s).1 (inl ((one s).1 (inl o)))
        | inr t ↦ elim (Contains-append_cases (take i steps) (get_or steps i 0 ∷ []) s t) [
          | inl l ↦ (two s).1 (inl ((one s).1 (inr l)))
          | inr r ↦ (two s).1 (inr (one_is (get_or steps i 0) s r))
        ]
      ],
    )
