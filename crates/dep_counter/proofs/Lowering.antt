-- Counts are lowered one by one, and stay the numbers of edge producers that haven't ended.
use Rattle.std.proofs.Common.{◌≡◌, ◌≢◌, ◌↔◌, ℕ, zero, suc, ◌+◌, ◌-◌, ◌<◌, ◌≤◌, List, [], ◌∷◌, ◌++◌, ◌==◌, cond, length, get_or, set, take, Contains, filter, refl, sym, ap, ◌∙◌, subst, arith, ◌⊎◌, inl, inr, length-set}
use Rattle.std.specs.List.Sorted.{IsStrictlyIncreasing}
use Rattle.std.proofs.lemmas.Bool.{eqb-true, eq-eqb, cases_lt}
use Rattle.std.proofs.lemmas.List.{take_more, get_or-set_same, get_or-set_other, get_or_past, get_or_append_left, get_or_push, length_push}
use Rattle.std.proofs.lemmas.List.Elements.{Contains-append_cases, Contains-append_left, Contains-append_right, filter-append}
use Rattle.std.proofs.lemmas.List.Kept.{IsStrictlyIncreasing-filter}
use Rattle.chain_builder.specs.EffectiveProducer.{produced}
use Rattle.chain_builder.specs.Lists.{list_at}
use Rattle.chain_builder.specs.PlanView.{PlanView}
use Rattle.dep_counter.specs.Counting.{HowMany, Leads, IsOpen, AreCounts, IsReleasedBy, AreLowered}
use Rattle.dep_counter.proofs.CallerLemmas.{in_head, in_none, in_cases, decide}
use Rattle.dep_counter.proofs.Elements.{filtered, passes, is_other, other, other_ne, shorter, below_at, same_rising}

one_is : (d s : ℕ) → Contains (d ∷ []) s → d ≡ s
one_is d s c = elim (in_cases d [] s c) [ inl e ↦ e | inr t ↦ absurd (in_none s t) ]

pub lowered_none : (xs : List ℕ) → AreLowered [] xs xs
lowered_none xs = record { wide = refl; lowered = λ s c. absurd (in_none s c); others = λ s c. refl }

pub lowered_set : (d : ℕ) (xs : List ℕ) (x : ℕ) → d < length xs → x ≡ get_or xs d 0 - 1 → AreLowered (d ∷ []) xs (set xs d x)
lowered_set d xs x lt e = record {
  wide = length-set xs d x;
  lowered = λ s c. let same : d ≡ s = one_is d s c in subst (λ n. get_or (set xs d x) n 0 ≡ get_or xs n 0 - 1) same (get_or-set_same xs d x 0 lt ∙ e);
  others = λ s c. get_or-set_other xs d s x 0 (λ q. c (subst (λ n. Contains (d ∷ []) n) (sym q) (in_head d [])));
}

pub lowered_past : (d : ℕ) (xs : List ℕ) → length xs ≤ d → AreLowered (d ∷ []) xs xs
lowered_past d xs le = record {
  wide = refl;
  lowered = λ s c. let same : d ≡ s = one_is d s c in let past : get_or xs d 0 ≡ 0 = get_or_past xs d 0 le in subst (λ n. get_or xs n 0 ≡ get_or xs n 0 - 1) same (omega (arith, past));
  others = λ s c. refl;
}

pub lowered_more : (done : List ℕ) (d : ℕ) (old mid new : List ℕ) → AreLowered done old mid → (Contains done d → ⊥) → AreLowered (d ∷ []) mid new → AreLowered (done ++ d ∷ []) old new
lowered_more done d old mid new one fresh two = record {
  wide = two.wide ∙ one.wide;
  lowered = λ s c. elim (Contains-append_cases done (d ∷ []) s c) [
    | inl l ↦ two.others s (λ t. let e : d ≡ s = one_is d s t in fresh (subst (Contains done) (sym e) l)) ∙ one.lowered s l
    | inr r ↦ let e : d ≡ s = one_is d s r in two.lowered s r ∙ ap (λ n. n - 1) (one.others s (λ l. fresh (subst (Contains done) (sym e) l)))
  ];
  others = λ s c. two.others s (λ r. c (Contains-append_right done (d ∷ []) s r)) ∙ one.others s (λ l. c (Contains-append_left done (d ∷ []) s l));
}

-- one turn of the loop
pub lowered_turn : (steps : List ℕ) (i : ℕ) (old mid new : List ℕ) → IsStrictlyIncreasing steps → i < length steps → AreLowered (take i steps) old mid → AreLowered (get_or steps i 0 ∷ []) mid new → AreLowered (take (i + 1) steps) old new
lowered_turn steps i old mid new up lt one two =
    let P : List ℕ → Type 0 = λ l. AreLowered l old new in
    subst P (sym (take_more steps i 0 lt)) (lowered_more (take i steps) (get_or steps i 0) old mid new one (λ c. let b : get_or steps i 0 < get_or steps i 0 = below_at steps i up lt (get_or steps i 0) c in omega arith) two)

-- a step more is told, where its count was at one before all
pub told_turn : (steps : List ℕ) (i : ℕ) (old mid told new : List ℕ) → IsStrictlyIncreasing steps → i < length steps → AreLowered (take i steps) old mid
    → told ≡ filter (λ s. get_or old s 0 == 1) (take i steps) → new ≡ told ++ cond (get_or mid (get_or steps i 0) 0 == 1) (get_or steps i 0 ∷ []) []
    → new ≡ filter (λ s. get_or old s 0 == 1) (take (i + 1) steps)
told_turn steps i old mid told new up lt low told_is is =
    let d : ℕ = get_or steps i 0 in
    let same : get_or mid d 0 ≡ get_or old d 0 = low.others d (λ c. let b : d < d = below_at steps i up lt d c in omega (arith, b)) in
    let P : List ℕ → Type 0 = λ l. new ≡ filter (λ s. get_or old s 0 == 1) l in
    subst P (sym (take_more steps i 0 lt)) (
    is ∙ ap (λ n. told ++ cond (n == 1) (d ∷ []) []) same
    ∙ ap (λ l. l ++ cond (get_or old d 0 == 1) (d ∷ []) []) told_is
    ∙ sym (filter-append (λ s. get_or old s 0 == 1) (take i steps) (d ∷ []))
    )

-- an edge producer that was open ends
module _ (plan : PlanView) (ended : List ℕ) (step s : ℕ) where
  abbrev Now : ℕ → Type 0
  Now p = IsOpen plan (ended ++ step ∷ []) s p

  still : (p : ℕ) → IsOpen plan ended s p → p ≢ step → Now p
  still p o ne = (o.0, λ c. elim (Contains-append_cases ended (step ∷ []) p c) [ inl l ↦ o.1 l | inr r ↦ ne (sym (one_is step p r)) ])

  before : (p : ℕ) → Now p → IsOpen plan ended s p
  before p o = (o.0, λ c. o.1 (Contains-append_left ended (step ∷ []) p c))

  not_it : (p : ℕ) → Now p → p ≢ step
  not_it p o e = o.1 (subst (Contains (ended ++ step ∷ [])) (sym e) (Contains-append_right ended (step ∷ []) step (in_head step [])))

  pub one_less : (n : ℕ) → HowMany (IsOpen plan ended s) n → Leads plan step s → (Contains ended step → ⊥) → HowMany Now (n - 1)
  one_less n many leads fresh =
      let there : Contains many.list step = (many.exact step).1 (leads, fresh) in
      let short : length (filter (is_other step) many.list) + 1 ≡ length many.list = shorter step many.list many.rising there in
      let long : length many.list ≡ n = many.count in
      record {
        list = filter (is_other step) many.list;
        rising = IsStrictlyIncreasing-filter (is_other step) many.list many.rising;
        exact = λ x. (
          λ c. let f = filtered (is_other step) many.list x c in still x ((many.exact x).0 f.0) (other_ne step x f.1),
          λ o. passes (is_other step) many.list x (other step x (not_it x o)) ((many.exact x).1 (before x o)),
        );
        count = omega (arith, short, long);
      }

  pub none_less : (n : ℕ) → HowMany (IsOpen plan ended s) n → (Leads plan step s → ⊥) → HowMany Now n
  none_less n many apart = record {
    list = many.list;
    rising = many.rising;
    exact = λ x. (
      λ c. let o = (many.exact x).0 c in still x o (λ e. apart (subst (λ p. Leads plan p s) e o.0)),
      λ o. (many.exact x).1 (before x o),
    );
    count = many.count;
  }

pub counts_after : (plan : PlanView) (ended : List ℕ) (step : ℕ) (steps old new : List ℕ)
    → ((s : ℕ) → Contains steps s ↔ Leads plan step s) → AreCounts plan ended old → (Contains ended step → ⊥) → AreLowered steps old new
    → ((s : ℕ) → (Contains steps s) ⊎ (Contains steps s → ⊥)) → AreCounts plan (ended ++ step ∷ []) new
counts_after plan ended step steps old new exact counts fresh low dec = record {
  wide = low.wide ∙ counts.wide;
  exact = λ s lt. elim (dec s) [
    | inl c ↦ let P : ℕ → Type 0 = HowMany (IsOpen plan (ended ++ step ∷ []) s) in subst P (sym (low.lowered s c)) (one_less plan ended step s (get_or old s 0) (counts.exact s lt) ((exact s).0 c) fresh)
    | inr n ↦ let P : ℕ → Type 0 = HowMany (IsOpen plan (ended ++ step ∷ []) s) in subst P (sym (low.others s n)) (none_less plan ended step s (get_or old s 0) (counts.exact s lt) (λ l. n ((exact s).1 l)))
  ];
}

-- a list with nothing in it
empty_of : (xs : List ℕ) → ((x : ℕ) → Contains xs x → ⊥) → length xs ≡ 0
empty_of [] none = refl
empty_of (x ∷ xs) none = absurd (none x (in_head x xs))

one_of : (xs : List ℕ) (x : ℕ) → Contains xs x → 1 ≤ length xs
one_of xs x c = let lt : c.0 < length xs = c.1 in omega arith

-- the count is 1 exactly where nothing but the step is waited for
pub told_of : (plan : PlanView) (ended : List ℕ) (step : ℕ) (steps counts told : List ℕ)
    → ((s : ℕ) → Contains steps s ↔ Leads plan step s) → ((s : ℕ) → Leads plan step s → s < length plan.steps)
    → AreCounts plan ended counts → (Contains ended step → ⊥)
    → told ≡ filter (λ s. get_or counts s 0 == 1) steps → (s : ℕ) → Contains told s ↔ IsReleasedBy plan ended step s
told_of plan ended step steps counts told exact within are fresh is s = (
  λ c.
      let f = filtered (λ x. get_or counts x 0 == 1) steps s (subst (λ l. Contains l s) is c) in
      let leads : Leads plan step s = (exact s).0 f.0 in
      let less = one_less plan ended step s (get_or counts s 0) (are.exact s (within s leads)) leads fresh in
      let one : get_or counts s 0 ≡ 1 = eqb-true (get_or counts s 0) 1 f.1 in
      let none : length less.list ≡ 0 = less.count ∙ ap (λ n. n - 1) one in (
        leads,
        λ p q. elim (decide (ended ++ step ∷ []) p) [
          | inl i ↦ i
          | inr n ↦ absurd (let some : 1 ≤ length less.list = one_of less.list p ((less.exact p).1 (q, n)) in omega (arith, none, some))
        ],
      ),
  λ r.
      let less = one_less plan ended step s (get_or counts s 0) (are.exact s (within s r.0)) r.0 fresh in
      let none : length less.list ≡ 0 = empty_of less.list (λ p i. ((less.exact p).0 i).1 (r.1 p ((less.exact p).0 i).0)) in
      let many = are.exact s (within s r.0) in
      let some : 1 ≤ length many.list = one_of many.list step ((many.exact step).1 (r.0, fresh)) in
      let long : length many.list ≡ get_or counts s 0 = many.count in
      let less_is : length less.list ≡ get_or counts s 0 - 1 = less.count in
      let one : get_or counts s 0 ≡ 1 = omega (arith, none, some, long, less_is) in
      subst (λ l. Contains l s) (sym is) (passes (λ x. get_or counts x 0 == 1) steps s (eq-eqb (get_or counts s 0) 1 one) ((exact s).1 r.0)),
)

at_past : {X Y : Type 0} (f : X → List Y) (xs : List X) (i : ℕ) → length xs ≤ i → list_at f xs i ≡ []
at_past f [] i le = refl
at_past f (x ∷ xs) zero le = absurd (omega (arith, le))
at_past f (x ∷ xs) (suc i) le = at_past f xs i (omega (arith, le))

-- an edge leads to a step of the plan
pub leads_within : (plan : PlanView) (p s : ℕ) → Leads plan p s → s < length plan.steps
leads_within plan p s e = elim (cases_lt s (length plan.steps)) [
  | inl l ↦ l
  | inr l ↦ let n = e.consumer_needed in absurd (in_none n.leads.0.1.production (subst (λ ps. Contains ps n.leads.0.1.production) (at_past produced plan.steps s l) n.leads.0.1.declared))
]

-- the number of a property is that of a list of it
pub count_of : (P : ℕ → Type 0) (n : ℕ) (xs : List ℕ) → HowMany P n → IsStrictlyIncreasing xs → ((s : ℕ) → Contains xs s ↔ P s) → length xs ≡ n
count_of P n xs many up exact = ap length (same_rising xs many.list up many.rising (λ s c. (many.exact s).1 ((exact s).0 c)) (λ s c. (exact s).1 ((many.exact s).0 c))) ∙ many.count

-- one count more
pub one_more : (P : ℕ → ℕ → Type 0) (counts new : List ℕ) (x n : ℕ) → length counts ≡ n → ((s : ℕ) → s < n → HowMany (P s) (get_or counts s 0)) → HowMany (P n) x → new ≡ counts ++ x ∷ []
    → (length new ≡ n + 1) × ((s : ℕ) → s < n + 1 → HowMany (P s) (get_or new s 0))
one_more P counts new x n long all many is = (
  ap length is ∙ length_push counts x ∙ ap (λ m. m + 1) long,
  λ s lt. subst (λ l. HowMany (P s) (get_or l s 0)) (sym is) (elim (cases_lt s n) [
    | inl l ↦ subst (HowMany (P s)) (sym (get_or_append_left counts (x ∷ []) 0 s (omega (arith, l, long)))) (all s l)
    | inr l ↦ let e : s ≡ n = omega (arith, l, lt) in
        let at : get_or (counts ++ x ∷ []) s 0 ≡ x = get_or_push counts x 0 s (omega (arith, e, long)) in
        subst (HowMany (P s)) (sym at) (subst (λ m. HowMany (P m) x) (sym e) many)
  ]),
)

-- where no step has ended each edge producer is open
pub fresh_counts : (plan : PlanView) (counts items : List ℕ) (n : ℕ) → items ≡ counts → length counts ≡ n → ((s : ℕ) → s < n → HowMany (λ p. Leads plan p s) (get_or counts s 0)) → n ≡ length plan.steps → AreCounts plan [] items
fresh_counts plan counts items n is long all whole = record {
  wide = ap length is ∙ long ∙ whole;
  exact = λ s lt. let m = all s (omega (arith, lt, whole)) in subst (λ l. HowMany (IsOpen plan [] s) (get_or l s 0)) (sym is) (record {
    list = m.list;
    rising = m.rising;
    exact = λ x. (λ c. ((m.exact x).0 c, λ i. in_none x i), λ o. (m.exact x).1 o.0);
    count = m.count;
  });
}
