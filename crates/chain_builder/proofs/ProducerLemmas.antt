use Rattle.std.proofs.Common.{◌≡◌, ℕ, ◌+◌, ◌<◌, ◌≤◌, Bool, true, false, List, [], ◌∷◌, ◌++◌, length, refl, Contains, get_or, set, take, arith, sym, ◌∙◌, ap, subst, ◌⊎◌, inl, inr, cond, ◌↔◌, get_or-set_same, get_or-set_other}
use Rattle.std.proofs.lemmas.List.Elements.{Contains-push, Contains-append_left, Contains-push_cases}
use Rattle.std.proofs.lemmas.Bool.{cases_eq}
use Rattle.std.proofs.lemmas.List.{length-set, length_push}
use Rattle.item_types.specs.declared.step.Produce.{Produce}
use Rattle.item_types.specs.declared.step.StepDecl.{StepDecl}
use Rattle.chain_builder.specs.Lists.{list_at}
use Rattle.chain_builder.specs.Rows.{row}
use Rattle.chain_builder.proofs.RowLemmas.{row_push, row_pushed, row_within}
use Rattle.chain_builder.specs.EffectiveProducer.{productions, produced}
use Rattle.chain_builder.specs.Consumption.{Consumes}
use Rattle.chain_builder.specs.ProducerRows.{IsEffective}
use Rattle.chain_builder.specs.ProducerRows.{AreItemsOf, HasPlainIn, HasPlain, ProducesAs, counts_as}
use Rattle.chain_builder.proofs.ListLemmas.{in_front_cases, in_front_old, in_front_new, none_in_nil, list_at_within}

pub items_none : {X : Type 0} (item : X → ℕ) (test : X → Bool) → AreItemsOf item test [] []
items_none item test = record { from = λ t h. none_in_nil t h; kept = λ x h e. none_in_nil x h }

pub items_more_yes : {X : Type 0} (item : X → ℕ) (test : X → Bool) (xs : List X) (i : ℕ) (x : X) (items : List ℕ) → i < length xs → x ≡ get_or xs i x → test x ≡ true → AreItemsOf item test (take i xs) items → AreItemsOf item test (take (i + 1) xs) (items ++ item x ∷ [])
items_more_yes item test xs i x items h e good a = record {
  from = λ t c. elim (Contains-push_cases items (item x) t c) [
    | inl old ↦ let f = a.from t old in (f.0, in_front_old xs i f.0 h f.1, f.2, f.3)
    | inr q ↦ (x, in_front_new xs i x h e, q, good)
  ];
  kept = λ y c pass. elim (in_front_cases xs i x y h e c) [
    | inl old ↦ Contains-append_left items (item x ∷ []) (item y) (a.kept y old pass)
    | inr q ↦ subst (λ (z : ℕ). Contains (items ++ item x ∷ []) z) (ap item (sym q)) (Contains-push items (item x))
  ];
}

pub items_more_no : {X : Type 0} (item : X → ℕ) (test : X → Bool) (xs : List X) (i : ℕ) (x : X) (items : List ℕ) → i < length xs → x ≡ get_or xs i x → test x ≡ false → AreItemsOf item test (take i xs) items → AreItemsOf item test (take (i + 1) xs) items
items_more_no item test xs i x items h e bad a = record {
  from = λ t c. let f = a.from t c in (f.0, in_front_old xs i f.0 h f.1, f.2, f.3);
  kept = λ y c pass. elim (in_front_cases xs i x y h e c) [
    | inl old ↦ a.kept y old pass
    | inr q ↦ absurd (let z : true ≡ false = sym pass ∙ (ap test q ∙ bad) in cc)
  ];
}

-- the flags so far
pub record ArePlainSoFar (old : List Bool) (ps : List Produce) (new : List Bool) : Type 0 where
  pub wide : length new ≡ length old
  pub marked : (t : ℕ) → get_or new t false ≡ true → (get_or old t false ≡ true) ⊎ HasPlainIn ps t
  pub kept : (t : ℕ) → get_or old t false ≡ true → get_or new t false ≡ true
  pub plain : (t : ℕ) → HasPlainIn ps t → get_or new t false ≡ true

pub plain_none : (old : List Bool) → ArePlainSoFar old [] old
plain_none old = record { wide = refl; marked = λ t h. inl h; kept = λ t h. h; plain = λ t h. none_in_nil h.0 h.1 }

pub plain_more_yes : (old : List Bool) (ps : List Produce) (i : ℕ) (p : Produce) (new : List Bool) → i < length ps → p ≡ get_or ps i p → p.item < length old → p.overridable ≡ false → ArePlainSoFar old (take i ps) new → ArePlainSoFar old (take (i + 1) ps) (set new p.item true)
plain_more_yes old ps i p new h e within good a = record {
  wide = length-set new p.item true ∙ a.wide;
  marked = λ t c. elim (cases_eq t p.item) [
    | inl q ↦ inr (p, in_front_new ps i p h e, sym q, good)
    | inr ne ↦ elim (a.marked t (sym (get_or-set_other new p.item t true false ne) ∙ c)) [ inl o ↦ inl o | inr f ↦ inr (f.0, in_front_old ps i f.0 h f.1, f.2, f.3) ]
  ];
  kept = λ t c. elim (cases_eq t p.item) [
    | inl q ↦ subst (λ (z : ℕ). get_or (set new p.item true) z false ≡ true) (sym q) (get_or-set_same new p.item true false (omega (arith, a.wide)))
    | inr ne ↦ get_or-set_other new p.item t true false ne ∙ a.kept t c
  ];
  plain = λ t f. elim (cases_eq t p.item) [
    | inl q ↦ subst (λ (z : ℕ). get_or (set new p.item true) z false ≡ true) (sym q) (get_or-set_same new p.item true false (omega (arith, a.wide)))
    | inr ne ↦ get_or-set_other new p.item t true false ne ∙ a.plain t (elim (in_front_cases ps i p f.0 h e f.1) [ inl o ↦ (f.0, o, f.2, f.3) | inr q ↦ absurd (ne (sym f.2 ∙ ap (λ (z : Produce). z.item) q)) ])
  ];
}

pub plain_more_no : (old : List Bool) (ps : List Produce) (i : ℕ) (p : Produce) (new : List Bool) → i < length ps → p ≡ get_or ps i p → p.overridable ≡ true → ArePlainSoFar old (take i ps) new → ArePlainSoFar old (take (i + 1) ps) new
plain_more_no old ps i p new h e bad a = record {
  wide = a.wide;
  marked = λ t c. elim (a.marked t c) [ inl o ↦ inl o | inr f ↦ inr (f.0, in_front_old ps i f.0 h f.1, f.2, f.3) ];
  kept = a.kept;
  plain = λ t f. a.plain t (elim (in_front_cases ps i p f.0 h e f.1) [ inl o ↦ (f.0, o, f.2, f.3) | inr q ↦ absurd (let z : true ≡ false = sym bad ∙ (sym (ap (λ (y : Produce). y.overridable) q) ∙ f.3) in cc) ]);
}

counts_parts : (o f s w : Bool) → cond (cond o f false) false (cond s (cond w false true) true) ≡ true → ((o ≡ false) ⊎ (f ≡ false)) × (s ≡ true → w ≡ false)
counts_parts true true s w e = absurd (cc)
counts_parts true false true true e = absurd (cc)
counts_parts true false true false e = (inr refl, λ _. refl)
counts_parts true false false w e = (inr refl, λ q. absurd (cc))
counts_parts false f true true e = absurd (cc)
counts_parts false f true false e = (inl refl, λ _. refl)
counts_parts false f false w e = (inl refl, λ q. absurd (cc))

counts_join : (o f s w : Bool) → (o ≡ false) ⊎ (f ≡ false) → (s ≡ true → w ≡ false) → cond (cond o f false) false (cond s (cond w false true) true) ≡ true
counts_join true true s w (inl e) g = absurd (cc)
counts_join true true s w (inr e) g = absurd (cc)
counts_join true false true true h g = sym (g refl)
counts_join true false true false h g = refl
counts_join true false false w h g = refl
counts_join false f true true h g = sym (g refl)
counts_join false f true false h g = refl
counts_join false f false w h g = refl

-- the flags say which items have a production without `overridable`
abbrev pub ArePlain : List StepDecl → List Bool → Type 0
ArePlain steps plain = (t : ℕ) → (get_or plain t false ≡ true) ↔ HasPlain steps t

bool_cases : (b : Bool) → (b ≡ true) ⊎ (b ≡ false)
bool_cases true = inl refl
bool_cases false = inr refl

pub counts_sound : (steps : List StepDecl) (plain : List Bool) (strong : Bool) (p : Produce) → ArePlain steps plain → counts_as plain strong p ≡ true → IsEffective steps p × (strong ≡ true → p.weak ≡ false)
counts_sound steps plain strong p a e =
    let parts : ((p.overridable ≡ false) ⊎ (get_or plain p.item false ≡ false)) × (strong ≡ true → p.weak ≡ false) = counts_parts p.overridable (get_or plain p.item false) strong p.weak e in (
      elim parts.0 [
        | inl h ↦ inl h
        | inr clear ↦ inr (λ s q c i. elim (bool_cases q.overridable) [
          | inl o ↦ o
          | inr o ↦ absurd (let z : true ≡ false = sym ((a p.item).1 (s, (q, c, i, o))) ∙ clear in cc)
        ])
      ],
      parts.1,
    )

pub counts_complete : (steps : List StepDecl) (plain : List Bool) (strong : Bool) (p : Produce) → ArePlain steps plain → IsEffective steps p → (strong ≡ true → p.weak ≡ false) → counts_as plain strong p ≡ true
counts_complete steps plain strong p a e g = counts_join p.overridable (get_or plain p.item false) strong p.weak (elim e [
  | inl h ↦ inl h
  | inr all ↦ elim (bool_cases (get_or plain p.item false)) [
    | inr clear ↦ inr clear
    | inl set ↦ let f = (a p.item).0 set in absurd (let z : true ≡ false = sym (all f.0 f.1.0 f.1.1 f.1.2) ∙ f.1.3 in cc)
  ]
]) g

-- the flags of the first n steps
pub record ArePlainUpTo (steps : List StepDecl) (n : ℕ) (plain : List Bool) : Type 0 where
  pub marked : (t : ℕ) → get_or plain t false ≡ true → (s : ℕ) × (s < n) × HasPlainIn (productions steps s) t
  pub kept : (s t : ℕ) → s < n → HasPlainIn (productions steps s) t → get_or plain t false ≡ true

pub upto_none : (steps : List StepDecl) (width : ℕ) (plain : List Bool) → ((t : ℕ) → get_or plain t false ≡ true → ⊥) → ArePlainUpTo steps 0 plain
upto_none steps width plain clear = record { marked = λ t h. absurd (clear t h); kept = λ s t h. absurd (omega arith) }

pub plain_upto_more : (steps : List StepDecl) (n : ℕ) (old new : List Bool) (ps : List Produce) → productions steps n ≡ ps → ((t : ℕ) → (get_or new t false ≡ true) ↔ ((get_or old t false ≡ true) ⊎ HasPlainIn ps t)) → ArePlainUpTo steps n old → ArePlainUpTo steps (n + 1) new
plain_upto_more steps n old new ps is marks a = record {
  marked = λ t h. elim ((marks t).0 h) [
    | inl o ↦ let f = a.marked t o in (f.0, omega (arith, f.1), f.2)
    | inr p ↦ (n, omega arith, subst (λ (qs : List Produce). HasPlainIn qs t) (sym is) p)
  ];
  kept = λ s t h p. elim (cases_eq s n) [
    | inl e ↦ (marks t).1 (inr (subst (λ (qs : List Produce). HasPlainIn qs t) (ap (productions steps) e ∙ is) p))
    | inr ne ↦ (marks t).1 (inl (a.kept s t (omega arith) p))
  ];
}

pub upto_all : (steps : List StepDecl) (n : ℕ) (plain : List Bool) → length steps ≤ n → ArePlainUpTo steps n plain → ArePlain steps plain
upto_all steps n plain all a t = (λ h. let f = a.marked t h in (f.0, f.2), λ h. a.kept h.0 t (let w : h.0 < length steps = list_at_within produced steps h.0 h.1.0 h.1.1 in omega arith) h.1)

-- the rows of the first n steps
pub record AreRowsUpTo {X : Type 0} (item : X → ℕ) (test : X → Bool) (part : StepDecl → List X) (steps : List StepDecl) (rows : List (List ℕ)) (n : ℕ) : Type 0 where
  pub count : length rows ≡ n
  pub made : (s : ℕ) → s < n → AreItemsOf item test (list_at part steps s) (row rows s)

pub rows_more : {X : Type 0} (item : X → ℕ) (test : X → Bool) (part : StepDecl → List X) (steps : List StepDecl) (rows : List (List ℕ)) (n : ℕ) (v : List ℕ) (xs : List X) → list_at part steps n ≡ xs → AreItemsOf item test xs v → AreRowsUpTo item test part steps rows n → AreRowsUpTo item test part steps (rows ++ v ∷ []) (n + 1)
rows_more item test part steps rows n v xs is new a = record {
  count = length_push rows v ∙ ap (λ k. k + 1) a.count;
  made = λ s h. elim (cases_eq s n) [
    | inl e ↦ subst (λ ys. AreItemsOf item test ys (row (rows ++ v ∷ []) s)) (sym (ap (list_at part steps) e ∙ is)) (subst (AreItemsOf item test xs) (sym (row_pushed rows s v (e ∙ sym a.count))) new)
    | inr ne ↦ let lt : s < length rows = omega (arith, a.count) in subst (AreItemsOf item test (list_at part steps s)) (sym (row_push rows s v lt)) (a.made s (omega arith))
  ];
}

pub rows_none : {X : Type 0} (item : X → ℕ) (test : X → Bool) (part : StepDecl → List X) (steps : List StepDecl) → AreRowsUpTo item test part steps [] 0
rows_none item test part steps = record { count = refl; made = λ s h. absurd (omega arith) }

pub rows_all : {X : Type 0} (item : X → ℕ) (test : X → Bool) (part : StepDecl → List X) (steps : List StepDecl) (rows : List (List ℕ)) (n : ℕ) → length steps ≤ n → AreRowsUpTo item test part steps rows n → (s t : ℕ) → Contains (row rows s) t ↔ ((x : X) × Contains (list_at part steps s) x × (item x ≡ t) × (test x ≡ true))
rows_all item test part steps rows n all a s t = (
  λ h. (a.made s (let w : s < length rows = row_within rows s t h in omega (arith, a.count))).from t h,
  λ f. subst (Contains (row rows s)) f.2 ((a.made s (let w : s < length steps = list_at_within part steps s f.0 f.1 in omega arith)).kept f.0 f.1 f.3),
)

pub effective_all : (steps : List StepDecl) (plain : List Bool) (strong : Bool) (rows : List (List ℕ)) (n : ℕ) → length steps ≤ n → ArePlain steps plain → AreRowsUpTo (λ p. p.item) (counts_as plain strong) produced steps rows n → (s t : ℕ) → Contains (row rows s) t ↔ ProducesAs strong steps s t
effective_all steps plain strong rows n all ap' a s t =
    let r = rows_all (λ p. p.item) (counts_as plain strong) produced steps rows n all a s t in (
      λ h. let f = r.0 h in let g = counts_sound steps plain strong f.0 ap' f.3 in (f.0, f.1, f.2, g.0, g.1),
      λ f. r.1 (f.0, f.1, f.2, counts_complete steps plain strong f.0 ap' f.3 f.4),
    )

pub consumed_all : (steps : List StepDecl) (rows : List (List ℕ)) (n : ℕ) → length steps ≤ n → AreRowsUpTo (λ c. c.item) (λ _. true) (λ d. d.consumes) steps rows n → (s t : ℕ) → Contains (row rows s) t ↔ Consumes steps s t
consumed_all steps rows n all a s t =
    let r = rows_all (λ c. c.item) (λ _. true) (λ d. d.consumes) steps rows n all a s t in
    (λ h. let f = r.0 h in (f.0, f.1, f.2), λ f. r.1 (f.0, f.1, f.2, refl))
