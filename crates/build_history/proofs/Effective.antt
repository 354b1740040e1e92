-- The test of an effective production decides the relation.
use Rattle.std.proofs.Common.{◌≡◌, ◌↔◌, ℕ, zero, suc, ◌<◌, List, [], ◌∷◌, Bool, true, false, ◌&&◌, ◌||◌, not, ◌==◌, length, get_or, Contains, IsTrue, refl, sym, ap, ◌∙◌, subst, arith, ◌⊎◌, inl, inr}
use Rattle.std.specs.List.{list_any}
use Rattle.std.proofs.lemmas.Bool.{eqb-true, eq-eqb}
use Rattle.item_types.specs.declared.step.StepDecl.{StepDecl}
use Rattle.chain_builder.specs.Lists.{list_at}
use Rattle.chain_builder.specs.EffectiveProducer.{produced, productions, AllOverridable, IsEffectiveProducer}
use Rattle.build_history.specs.Jobs.{is_plain, has_plain, counts_for, is_effective}

in_none : {X : Type 0} (x : X) → Contains [] x → ⊥
in_none x c = let inside : c.0 < 0 = c.1 in omega arith

in_head : {X : Type 0} (x : X) (xs : List X) → Contains (x ∷ xs) x
in_head x xs = (0, omega arith, refl)

in_tail : {X : Type 0} (x : X) (xs : List X) (y : X) → Contains xs y → Contains (x ∷ xs) y
in_tail x xs y c = let inside : c.0 < length xs = c.1 in (suc c.0, omega arith, c.2)

at_cases : {X : Type 0} (x : X) (xs : List X) (y : X) (k : ℕ) → k < length (x ∷ xs) → get_or (x ∷ xs) k y ≡ y → (x ≡ y) ⊎ Contains xs y
at_cases x xs y zero lt q = inl q
at_cases x xs y (suc k) lt q = inr (k, omega arith, q)

in_cases : {X : Type 0} (x : X) (xs : List X) (y : X) → Contains (x ∷ xs) y → (x ≡ y) ⊎ Contains xs y
in_cases x xs y c = at_cases x xs y c.0 c.1 c.2

or_left : (a b : Bool) → a ≡ true → (a || b) ≡ true
or_left a b q = rw q refl

or_right : (a b : Bool) → b ≡ true → (a || b) ≡ true
or_right true b q = refl
or_right false b q = q

or_split : (a b : Bool) → (a || b) ≡ true → (a ≡ true) ⊎ (b ≡ true)
or_split true b q = inl refl
or_split false b q = inr q

and_split : (a b : Bool) → (a && b) ≡ true → (a ≡ true) × (b ≡ true)
and_split true b q = (refl, q)
and_split false b q = cc

and_both : (a b : Bool) → a ≡ true → b ≡ true → (a && b) ≡ true
and_both a b p q = rw (p, q) refl

not_true : (a : Bool) → a ≡ false → not a ≡ true
not_true a q = rw q refl

not_false : (a : Bool) → not a ≡ true → a ≡ false
not_false true q = cc
not_false false q = refl

bool_cases : (a : Bool) → (a ≡ true) ⊎ (a ≡ false)
bool_cases true = inl refl
bool_cases false = inr refl

any_from : {X : Type 0} (p : X → Bool) (xs : List X) (x : X) → Contains xs x → p x ≡ true → list_any p xs ≡ true
any_from p [] x c t = absurd (in_none x c)
any_from p (y ∷ xs) x c t = elim (in_cases y xs x c) [
  | inl e ↦ or_left (p y) (list_any p xs) (ap p e ∙ t)
  | inr r ↦ or_right (p y) (list_any p xs) (any_from p xs x r t)
]

any_to : {X : Type 0} (p : X → Bool) (xs : List X) → list_any p xs ≡ true → (x : X) × Contains xs x × (p x ≡ true)
any_to p [] q = cc
any_to p (y ∷ xs) q = elim (or_split (p y) (list_any p xs) q) [
  | inl t ↦ (y, in_head y xs, t)
  | inr r ↦ let w = any_to p xs r in (w.0, in_tail y xs w.0 w.1, w.2)
]

at_of : {X Y : Type 0} (f : X → List Y) (xs : List X) (x : X) → Contains xs x → (i : ℕ) × (list_at f xs i ≡ f x)
at_of f [] x c = absurd (in_none x c)
at_of f (y ∷ xs) x c = elim (in_cases y xs x c) [
  | inl e ↦ (zero, ap f e)
  | inr r ↦ let w = at_of f xs x r in (suc w.0, w.1)
]

of_at : {X Y : Type 0} (f : X → List Y) (xs : List X) (i : ℕ) (y : Y) → Contains (list_at f xs i) y → (x : X) × Contains xs x × Contains (f x) y
of_at f [] i y c = absurd (in_none y c)
of_at f (x ∷ xs) zero y c = (x, in_head x xs, c)
of_at f (x ∷ xs) (suc i) y c = let w = of_at f xs i y c in (w.0, in_tail x xs w.0 w.1, w.2)

-- no active step produces the item without `overridable`
none_plain : (steps : List StepDecl) (t : ℕ) → has_plain steps t ≡ false → AllOverridable steps t
none_plain steps t none s p c is = elim (bool_cases p.overridable) [
  | inl q ↦ q
  | inr q ↦
      let w = of_at produced steps s p c in
      let plain : is_plain t p ≡ true = and_both (p.item == t) (not p.overridable) (eq-eqb p.item t is) (not_true p.overridable q) in
      let some : has_plain steps t ≡ true = any_from (λ d. list_any (is_plain t) (produced d)) steps w.0 w.1 (any_from (is_plain t) (produced w.0) p w.2 plain) in
      absurd (let z : true ≡ false = sym some ∙ none in cc)
]

some_plain : (steps : List StepDecl) (t : ℕ) → AllOverridable steps t → has_plain steps t ≡ false
some_plain steps t all = elim (bool_cases (has_plain steps t)) [
  | inr q ↦ q
  | inl q ↦
      let d = any_to (λ d. list_any (is_plain t) (produced d)) steps q in
      let p = any_to (is_plain t) (produced d.0) d.2 in
      let i = at_of produced steps d.0 d.1 in
      let both = and_split (p.0.item == t) (not p.0.overridable) p.2 in
      let there : Contains (productions steps i.0) p.0 = subst (λ l. Contains l p.0) (sym i.1) p.1 in
      let yes : p.0.overridable ≡ true = all i.0 p.0 there (eqb-true p.0.item t both.0) in
      absurd (let z : true ≡ false = sym yes ∙ not_false p.0.overridable both.1 in cc)
]

pub effective_to : (steps : List StepDecl) (s t : ℕ) → is_effective steps s t ≡ true → IsEffectiveProducer steps s t
unfolding is_effective
effective_to steps s t q =
    let w = any_to (counts_for steps t) (productions steps s) q in
    let both = and_split (w.0.item == t) (not w.0.overridable || not (has_plain steps t)) w.2 in
    record {
      production = w.0;
      declared = w.1;
      item = eqb-true w.0.item t both.0;
      counts = elim (or_split (not w.0.overridable) (not (has_plain steps t)) both.1) [
        | inl p ↦ inl (not_false w.0.overridable p)
        | inr p ↦ inr (none_plain steps t (not_false (has_plain steps t) p))
      ];
    }

pub effective_from : (steps : List StepDecl) (s t : ℕ) → IsEffectiveProducer steps s t → is_effective steps s t ≡ true
unfolding is_effective
effective_from steps s t e =
    let why : (not e.production.overridable || not (has_plain steps t)) ≡ true = elim e.counts [
      | inl p ↦ or_left (not e.production.overridable) (not (has_plain steps t)) (not_true e.production.overridable p)
      | inr p ↦ or_right (not e.production.overridable) (not (has_plain steps t)) (not_true (has_plain steps t) (some_plain steps t p))
    ] in
    any_from (counts_for steps t) (productions steps s) e.production e.declared
    (and_both (e.production.item == t) (not e.production.overridable || not (has_plain steps t)) (eq-eqb e.production.item t e.item) why)

decide_at : (b c : Bool) → (b ≡ true → c ≡ true) → (c ≡ true → b ≡ true) → b ≡ c
decide_at true c f g = sym (f refl)
decide_at false true f g = absurd (let z : false ≡ true = g refl in cc)
decide_at false false f g = refl

-- an answer that decides the relation is the test's
pub effective_is : (steps : List StepDecl) (s t : ℕ) (b : Bool) → IsTrue b ↔ IsEffectiveProducer steps s t → b ≡ is_effective steps s t
effective_is steps s t b w = decide_at b (is_effective steps s t) (λ q. effective_from steps s t (w.0 q)) (λ q. w.1 (effective_to steps s t q))

pub effective_both : (steps : List StepDecl) (s t : ℕ) → is_effective steps s t ≡ true ↔ IsEffectiveProducer steps s t
effective_both steps s t = (effective_to steps s t, effective_from steps s t)
