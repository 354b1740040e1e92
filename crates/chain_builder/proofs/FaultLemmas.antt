use Rattle.std.proofs.Common.{◌≡◌, ℕ, zero, suc, ◌+◌, ◌-◌, ◌<◌, ◌≤◌, Bool, true, false, List, [], ◌∷◌, ◌++◌, length, refl, Contains, get_or, arith, sym, ◌∙◌, ap, subst, ◌⊎◌, inl, inr, not, ◌↔◌, Some}
use Rattle.std.specs.Prelude.{slice_get}
use Rattle.std.proofs.lemmas.List.{get_or_default, get_or_past, get_or_push, get_or_append_left}
use Rattle.std.proofs.lemmas.Option.{slice_get-get_or, same_Some, slice_get_within}
use Rattle.std.proofs.lemmas.Bool.{cases_lt, cases_eq}
use Rattle.std.specs.List.Sorted.{IsStrictlyIncreasing}
use Rattle.item_types.specs.declared.step.Consume.{Consume}
use Rattle.item_types.specs.declared.decl.ItemDecl.{ItemDecl}
use Rattle.item_types.specs.declared.step.StepDecl.{StepDecl}
use Rattle.chain_builder.specs.EffectiveProducer.{IsEffectiveProducer}
use Rattle.chain_builder.specs.Needed.{IsNeeded}
use Rattle.chain_builder.specs.Consumption.{consumptions}
use Rattle.chain_builder.specs.ChainFaults.{IsSimple, MustBeProduced, HasTwoProducers, IsDuplicate, Lacks, NoFinalBefore, Wants, IsMissingConsumed}
use Rattle.chain_builder.specs.Missing.{IsLackingAt, NoLackBefore, NoWantBefore}
use Rattle.chain_builder.proofs.ListLemmas.{list_at_within}

not_both : {P : Type 0} (b : Bool) → b ≡ true → b ≡ false → P
not_both b t f = absurd (let z : true ≡ false = sym t ∙ f in cc)

-- in a rising list an earlier place has a lower number
rising_at : (xs : List ℕ) → IsStrictlyIncreasing xs → (d j : ℕ) → j + suc d < length xs → get_or xs j 0 < get_or xs (j + suc d) 0
rising_at xs up zero j h = subst (λ n. get_or xs j 0 < get_or xs n 0) (omega arith) (up j (omega arith))
rising_at xs up (suc d) j h =
    let a : get_or xs j 0 < get_or xs (j + suc d) 0 = rising_at xs up d j (omega arith) in
    let b : get_or xs (j + suc d) 0 < get_or xs (j + suc d + 1) 0 = up (j + suc d) (omega arith) in
    let e : j + suc d + 1 ≡ j + suc (suc d) = omega arith in
    let b' : get_or xs (j + suc d) 0 < get_or xs (j + suc (suc d)) 0 = subst (λ n. get_or xs (j + suc d) 0 < get_or xs n 0) e b in
    omega arith

pub rising_le : (xs : List ℕ) → IsStrictlyIncreasing xs → (j k : ℕ) → j < k → k < length xs → get_or xs j 0 < get_or xs k 0
rising_le xs up j k lt h = let e : j + suc (k - (j + 1)) ≡ k = omega arith in subst (λ n. get_or xs j 0 < get_or xs n 0) e (rising_at xs up (k - (j + 1)) j (omega arith))

-- each number of a rising list is the first, or at least the second
pub first_two : (xs : List ℕ) → IsStrictlyIncreasing xs → (s : ℕ) → Contains xs s → 1 < length xs → (s ≡ get_or xs 0 0) ⊎ (get_or xs 1 0 ≤ s)
first_two xs up s (zero, h, e) two = inl (sym e ∙ get_or_default xs 0 s 0 h)
first_two xs up s (suc zero, h, e) two = inr (let q : get_or xs 1 0 ≡ s = get_or_default xs 1 0 s h ∙ e in omega arith)
first_two xs up s (suc (suc k), h, e) two = inr (let q : get_or xs (suc (suc k)) 0 ≡ s = get_or_default xs (suc (suc k)) 0 s h ∙ e in let r : get_or xs 1 0 < get_or xs (suc (suc k)) 0 = rising_le xs up 1 (suc (suc k)) (omega arith) h in omega arith)

-- a list with two numbers is long enough
pub two_are : (xs : List ℕ) (a b : ℕ) → a < b → Contains xs a → Contains xs b → 1 < length xs
two_are xs a b lt (zero, h, e) (zero, k, f) = let p : get_or xs 0 0 ≡ a = get_or_default xs 0 0 a h ∙ e in let q : get_or xs 0 0 ≡ b = get_or_default xs 0 0 b h ∙ f in omega arith
two_are xs a b lt (suc j, h, e) g = omega arith
two_are xs a b lt (zero, h, e) (suc j, k, f) = omega arith

pub is_duplicate : (steps : List StepDecl) (items : List ItemDecl) (t : ℕ) (row : List ℕ) (a b : ℕ) → ((s : ℕ) → Contains row s ↔ IsEffectiveProducer steps s t) → IsStrictlyIncreasing row → 1 < length row → a ≡ get_or row 0 a → b ≡ get_or row 1 b → IsSimple items t → ((u : ℕ) → u < t → HasTwoProducers steps items u → ⊥) → IsDuplicate steps items t a b
is_duplicate steps items t row a b makes up two ra rb simple none =
    let pa : a ≡ get_or row 0 0 = ra ∙ get_or_default row 0 a 0 (omega arith) in
    let pb : b ≡ get_or row 1 0 = rb ∙ get_or_default row 1 b 0 two in
    record {
      simple = simple;
      least_item = none;
      first = (makes a).0 (0, omega arith, sym ra);
      second = (makes b).0 (1, two, sym rb);
      apart = let lt : get_or row 0 0 < get_or row 1 0 = rising_le row up 0 1 (omega arith) two in omega arith;
      two_least = λ s p. elim (first_two row up s ((makes s).1 p) two) [ inl e ↦ inl (e ∙ sym pa) | inr le ↦ inr (omega arith) ];
    }

pub not_two : (steps : List StepDecl) (items : List ItemDecl) (t : ℕ) (row : List ℕ) → ((s : ℕ) → Contains row s ↔ IsEffectiveProducer steps s t) → length row ≤ 1 → HasTwoProducers steps items t → ⊥
not_two steps items t row makes short h = let two : 1 < length row = two_are row h.1.0 h.1.1 h.1.2 ((makes h.1.0).1 h.1.3) ((makes h.1.1).1 h.1.4) in omega arith

pub one_more : {P : ℕ → Type 0} (n : ℕ) → ((u : ℕ) → u < n → P u → ⊥) → (P n → ⊥) → (u : ℕ) → u < n + 1 → P u → ⊥
one_more {P} n all here u h p = elim (cases_eq u n) [ inl e ↦ here (subst P e p) | inr ne ↦ all u (omega arith) p ]

pub simple_within : (items : List ItemDecl) (t : ℕ) → IsSimple items t → t < length items
simple_within items t s = slice_get_within items t s.0 s.1

pub must_within : (items : List ItemDecl) (t : ℕ) → MustBeProduced items t → t < length items
must_within items t s = slice_get_within items t s.0 s.1

pub lack_before_more : (consumes : List Consume) (lacking : List Bool) (i : ℕ) → NoLackBefore consumes lacking i → ((t : ℕ) → IsLackingAt consumes lacking i t → ⊥) → NoLackBefore consumes lacking (i + 1)
lack_before_more consumes lacking i all here k t h p = elim (cases_eq k i) [ inl e ↦ here t (subst (λ z. IsLackingAt consumes lacking z t) e p) | inr ne ↦ all k t (omega arith) p ]

-- what a read of the consumption at a place says
pub lack_read : (consumes : List Consume) (lacking : List Bool) (i t : ℕ) (d : Consume) → i < length consumes → IsLackingAt consumes lacking i t → ((get_or consumes i d).optional ≡ false) × (get_or lacking (get_or consumes i d).item false ≡ true)
lack_read consumes lacking i t d within p =
    let e : p.0.0 ≡ get_or consumes i d = same_Some _ _ (sym p.0.1 ∙ slice_get-get_or consumes i d within) in
    (ap (λ (c : Consume). c.optional) (sym e) ∙ p.0.3, subst (λ n. get_or lacking n false ≡ true) (sym (sym (ap (λ (c : Consume). c.item) e) ∙ p.0.2)) p.1)

pub want_before_more : (steps : List StepDecl) (items : List ItemDecl) (finals : List ℕ) (n : ℕ) → NoWantBefore steps items finals n → ((k t : ℕ) → Wants steps finals n k t → Lacks steps items finals t → ⊥) → NoWantBefore steps items finals (n + 1)
want_before_more steps items finals n all here s k t h w l = elim (cases_eq s n) [ inl e ↦ here k t (subst (λ z. Wants steps finals z k t) e w) l | inr ne ↦ all s k t (omega arith) w l ]

-- no consumption of step n is lacking
pub no_want_here : (steps : List StepDecl) (items : List ItemDecl) (finals : List ℕ) (lacking : List Bool) (n : ℕ) (consumes : List Consume) → consumptions steps n ≡ consumes → ((t : ℕ) → (get_or lacking t false ≡ true) ↔ Lacks steps items finals t) → NoLackBefore consumes lacking (length consumes) → (k t : ℕ) → Wants steps finals n k t → Lacks steps items finals t → ⊥
no_want_here steps items finals lacking n consumes is says none k t w l =
    let at : slice_get consumes k ≡ Some w.1.0 = subst (λ (xs : List Consume). slice_get xs k ≡ Some w.1.0) is w.1.1 in
    none k t (slice_get_within consumes k w.1.0 at) ((w.1.0, at, w.1.2, w.1.3), (says t).1 l)

pub is_missing_consumed : (steps : List StepDecl) (items : List ItemDecl) (finals : List ℕ) (lacking : List Bool) (n t : ℕ) (consumes : List Consume) → consumptions steps n ≡ consumes → ((t : ℕ) → (get_or lacking t false ≡ true) ↔ Lacks steps items finals t) → NoFinalBefore steps items finals (length finals) → IsNeeded steps finals n → NoWantBefore steps items finals n → ((k : ℕ) × IsLackingAt consumes lacking k t × NoLackBefore consumes lacking k) → IsMissingConsumed steps items finals t n
is_missing_consumed steps items finals lacking n t consumes is says found needed before f = record {
  finals_found = found;
  place = f.0;
  wanted = (needed, (f.1.0.0, subst (λ (xs : List Consume). slice_get xs f.0 ≡ Some f.1.0.0) (sym is) f.1.0.1, f.1.0.2, f.1.0.3));
  lacks = (says t).0 f.1.1;
  first = λ r k u order w l. elim order [
    | inl lt ↦ before r k u lt w l
    | inr same ↦
        let at : slice_get consumes k ≡ Some w.1.0 = subst (λ (xs : List Consume). slice_get xs k ≡ Some w.1.0) (ap (consumptions steps) same.0 ∙ is) w.1.1 in
        f.2 k u same.1 ((w.1.0, at, w.1.2, w.1.3), (says u).1 l)
  ];
}

pub wants_within : (steps : List StepDecl) (finals : List ℕ) (s k t : ℕ) → Wants steps finals s k t → s < length steps
wants_within steps finals s k t w = list_at_within (λ d. d.consumes) steps s w.1.0 (let h : k < length (consumptions steps s) = slice_get_within (consumptions steps s) k w.1.0 w.1.1 in (k, h, same_Some _ _ (sym (slice_get-get_or (consumptions steps s) k w.1.0 h) ∙ w.1.1)))

pub lacks_from : (b : Bool) → not b ≡ true → b ≡ true → ⊥
lacks_from true n e = let z : false ≡ true = n in cc
lacks_from false n e = let z : false ≡ true = e in cc

pub lacks_to : (b : Bool) → (b ≡ true → ⊥) → not b ≡ true
lacks_to true h = absurd (h refl)
lacks_to false h = refl

pub flags_more : (steps : List StepDecl) (items : List ItemDecl) (finals : List ℕ) (lacking : List Bool) (n : ℕ) (b : Bool) → length lacking ≡ n → (b ≡ true) ↔ Lacks steps items finals n → ((t : ℕ) → t < n → (get_or lacking t false ≡ true) ↔ Lacks steps items finals t) → (t : ℕ) → t < n + 1 → (get_or (lacking ++ b ∷ []) t false ≡ true) ↔ Lacks steps items finals t
flags_more steps items finals lacking n b count here all t h = elim (cases_eq t n) [
  | inl e ↦ subst (λ (v : Bool). (v ≡ true) ↔ Lacks steps items finals t) (sym (get_or_push lacking b false t (count ∙ sym e))) (subst (λ z. (b ≡ true) ↔ Lacks steps items finals z) (sym e) here)
  | inr ne ↦ subst (λ (v : Bool). (v ≡ true) ↔ Lacks steps items finals t) (sym (get_or_append_left lacking (b ∷ []) false t (omega arith))) (all t (omega arith))
]

pub flags_all : (steps : List StepDecl) (items : List ItemDecl) (finals : List ℕ) (lacking : List Bool) (n : ℕ) → length lacking ≡ n → length items ≤ n → ((t : ℕ) → t < n → (get_or lacking t false ≡ true) ↔ Lacks steps items finals t) → (t : ℕ) → (get_or lacking t false ≡ true) ↔ Lacks steps items finals t
flags_all steps items finals lacking n count all flags t = elim (cases_lt t n) [
  | inl lt ↦ flags t lt
  | inr ge ↦ (λ e. absurd (let q : get_or lacking t false ≡ false = get_or_past lacking t false (omega arith) in let z : true ≡ false = sym e ∙ q in cc), λ l. let w : t < length items = must_within items t l.0 in absurd (omega arith))
]
