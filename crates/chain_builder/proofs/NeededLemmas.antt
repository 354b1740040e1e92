use Rattle.std.proofs.Common.{◌≡◌, ℕ, zero, suc, ◌+◌, ◌<◌, ◌≤◌, List, [], ◌∷◌, ◌++◌, length, refl, Contains, get_or, take, arith, sym, ◌∙◌, ap, subst, ◌⊎◌, inl, inr, ◌↔◌, append_assoc}
use Rattle.std.proofs.lemmas.List.Elements.{Contains-append_left, Contains-push_cases, Contains-get_or}
use Rattle.std.proofs.lemmas.List.{append-nil, get_or_default, get_or_append_left}
use Rattle.std.proofs.lemmas.Bool.{cases_lt}
use Rattle.item_types.specs.declared.step.StepDecl.{StepDecl}
use Rattle.chain_builder.specs.Rows.{row}
use Rattle.chain_builder.specs.Marks.{Numbers, Grows, AddsAll}
use Rattle.chain_builder.specs.Search.{Visits}
use Rattle.chain_builder.specs.Consumption.{Consumes}
use Rattle.chain_builder.specs.EffectiveProducer.{IsStrongProducer}
use Rattle.chain_builder.specs.Needed.{IsNeeded, LeadsFromFinals}
use Rattle.chain_builder.proofs.ListLemmas.{in_front_cases, in_front_old, in_front_new, none_in_nil}

pub grows_self : (s : Numbers) → Grows s s
grows_self s = record { limit = refl; rest = []; is = sym (append-nil s.items) }

pub grows_on : (a b c : Numbers) → Grows a b → Grows b c → Grows a c
grows_on a b c g h = record { limit = h.limit ∙ g.limit; rest = g.rest ++ h.rest; is = h.is ∙ (ap (λ xs. xs ++ h.rest) g.is ∙ append_assoc a.items g.rest h.rest) }

pub grows_kept : (a b : Numbers) (x : ℕ) → Grows a b → Contains a.items x → Contains b.items x
grows_kept a b x g h = subst (λ (xs : List ℕ). Contains xs x) (sym g.is) (Contains-append_left a.items g.rest x h)

pub grows_at : (a b : Numbers) (k d : ℕ) → Grows a b → k < length a.items → get_or b.items k d ≡ get_or a.items k d
grows_at a b k d g h = ap (λ (xs : List ℕ). get_or xs k d) g.is ∙ get_or_append_left a.items g.rest d k h

-- what `Marks::add` ensures
pub one_grows : (old new : Numbers) (x : ℕ) → new.limit ≡ old.limit → (new.items ≡ old.items) ⊎ (new.items ≡ old.items ++ x ∷ []) → Grows old new
one_grows old new x l (inl e) = record { limit = l; rest = []; is = e ∙ sym (append-nil old.items) }
one_grows old new x l (inr e) = record { limit = l; rest = x ∷ []; is = e }

pub one_cases : (old new : Numbers) (x y : ℕ) → (new.items ≡ old.items) ⊎ (new.items ≡ old.items ++ x ∷ []) → Contains new.items y → Contains old.items y ⊎ (y ≡ x)
one_cases old new x y (inl e) h = inl (subst (λ (xs : List ℕ). Contains xs y) e h)
one_cases old new x y (inr e) h = elim (Contains-push_cases old.items x y (subst (λ (xs : List ℕ). Contains xs y) e h)) [ inl o ↦ inl o | inr q ↦ inr (sym q) ]

pub adds_all_none : (s : Numbers) → AddsAll s [] s
adds_all_none s = record { grows = grows_self s; added = λ x h. none_in_nil x h; nothing_else = λ x h. inl h }

pub adds_all_more : (old cur new : Numbers) (list : List ℕ) (i x : ℕ) → i < length list → x ≡ get_or list i x → new.limit ≡ cur.limit → Contains new.items x → (new.items ≡ cur.items) ⊎ (new.items ≡ cur.items ++ x ∷ []) → AddsAll old (take i list) cur → AddsAll old (take (i + 1) list) new
adds_all_more old cur new list i x within read l there items a =
    let one : Grows cur new = one_grows cur new x l items in
    record {
      grows = grows_on old cur new a.grows one;
      added = λ y h. elim (in_front_cases list i x y within read h) [
        | inl o ↦ grows_kept cur new y one (a.added y o)
        | inr e ↦ subst (Contains new.items) (sym e) there
      ];
      nothing_else = λ y h. elim (one_cases cur new x y items h) [
        | inl o ↦ elim (a.nothing_else y o) [ inl p ↦ inl p | inr q ↦ inr (in_front_old list i y within q) ]
        | inr e ↦ inr (subst (Contains (take (i + 1) list)) (sym e) (in_front_new list i x within read))
      ];
    }

pub adds_all_seen : (old cur : Numbers) (list : List ℕ) (i x : ℕ) → i < length list → x ≡ get_or list i x → Contains cur.items x → AddsAll old (take i list) cur → AddsAll old (take (i + 1) list) cur
adds_all_seen old cur list i x within read there a = adds_all_more old cur cur list i x within read refl there (inl refl) a

pub visits_none : (found wanted : Numbers) (consumed : List (List ℕ)) → Visits found wanted [] consumed found wanted
visits_none found wanted consumed = record { finds = adds_all_none found; grows = grows_self wanted; wanted_by = λ t h. inl h; wants = λ s t h c. inl h }

pub visits_more_seen : (f w cf cw : Numbers) (producers : List ℕ) (consumed : List (List ℕ)) (i s : ℕ) → i < length producers → s ≡ get_or producers i s → Contains cf.items s → Visits f w (take i producers) consumed cf cw → Visits f w (take (i + 1) producers) consumed cf cw
visits_more_seen f w cf cw producers consumed i s within read there v = record {
  finds = adds_all_seen f cf producers i s within read there v.finds;
  grows = v.grows;
  wanted_by = λ t h. elim (v.wanted_by t h) [ inl o ↦ inl o | inr p ↦ inr (p.0, in_front_old producers i p.0 within p.1, p.2) ];
  wants = v.wants;
}

pub visits_more_new : (f w cf cw nf nw : Numbers) (producers : List ℕ) (consumed : List (List ℕ)) (i s : ℕ) → i < length producers → s ≡ get_or producers i s → nf.limit ≡ cf.limit → Contains nf.items s → (nf.items ≡ cf.items) ⊎ (nf.items ≡ cf.items ++ s ∷ []) → AddsAll cw (row consumed s) nw → Visits f w (take i producers) consumed cf cw → Visits f w (take (i + 1) producers) consumed nf nw
visits_more_new f w cf cw nf nw producers consumed i s within read l there items a v = record {
  finds = adds_all_more f cf nf producers i s within read l there items v.finds;
  grows = grows_on w cw nw v.grows a.grows;
  wanted_by = λ t h. elim (a.nothing_else t h) [
    | inl o ↦ elim (v.wanted_by t o) [ inl p ↦ inl p | inr p ↦ inr (p.0, in_front_old producers i p.0 within p.1, p.2) ]
    | inr key ↦ inr (s, in_front_new producers i s within read, key)
  ];
  wants = λ r t h c. elim (one_cases cf nf s r items h) [
    | inl o ↦ elim (v.wants r t o c) [ inl p ↦ inl p | inr p ↦ inr (grows_kept cw nw t a.grows p) ]
    | inr e ↦ inr (a.added t (subst (λ (z : ℕ). Contains (row consumed z) t) e c))
  ];
}

-- what the search keeps
pub record IsSearch (steps : List StepDecl) (finals : List ℕ) (found wanted : Numbers) (at : ℕ) : Type 0 where
  pub found_sound : (s : ℕ) → Contains found.items s → IsNeeded steps finals s
  pub wanted_sound : (t : ℕ) → Contains wanted.items t → Contains finals t ⊎ ((s : ℕ) × IsNeeded steps finals s × Consumes steps s t)
  pub finals_wanted : (t : ℕ) → Contains finals t → Contains wanted.items t
  pub consumed_wanted : (s t : ℕ) → Contains found.items s → Consumes steps s t → Contains wanted.items t
  pub done : (k : ℕ) → k < at → k < length wanted.items → (s : ℕ) → IsStrongProducer steps s (get_or wanted.items k 0) → Contains found.items s

pub search_starts : (steps : List StepDecl) (finals : List ℕ) (found start wanted : Numbers) → found.items ≡ [] → start.items ≡ [] → AddsAll start finals wanted → IsSearch steps finals found wanted 0
search_starts steps finals found start wanted empty none a = record {
  found_sound = λ s h. none_in_nil s (subst (λ (xs : List ℕ). Contains xs s) empty h);
  wanted_sound = λ t h. elim (a.nothing_else t h) [ inl o ↦ none_in_nil t (subst (λ (xs : List ℕ). Contains xs t) none o) | inr f ↦ inl f ];
  finals_wanted = a.added;
  consumed_wanted = λ s t h c. none_in_nil s (subst (λ (xs : List ℕ). Contains xs s) empty h);
  done = λ k h w s p. absurd (omega arith);
}

-- a step that strongly produces what is wanted is needed
needed_by : (steps : List StepDecl) (finals : List ℕ) (s t : ℕ) → IsStrongProducer steps s t → Contains finals t ⊎ ((e : ℕ) × IsNeeded steps finals e × Consumes steps e t) → IsNeeded steps finals s
needed_by steps finals s t p (inl f) = record { earlier = []; leads = ((t, p, inl f), tt) }
needed_by steps finals s t p (inr w) = record { earlier = w.0 ∷ w.1.earlier; leads = ((t, p, inr (w.0, (0, omega arith, refl), w.2)), w.1.leads) }

pub search_more : (steps : List StepDecl) (finals : List ℕ) (consumed : List (List ℕ)) (producers : List ℕ) (f w nf nw : Numbers) (at t : ℕ) → ((s i : ℕ) → Contains (row consumed s) i ↔ Consumes steps s i) → ((s : ℕ) → Contains producers s ↔ IsStrongProducer steps s t) → at < length w.items → t ≡ get_or w.items at 0 → Visits f w producers consumed nf nw → IsSearch steps finals f w at → IsSearch steps finals nf nw (at + 1)
search_more steps finals consumed producers f w nf nw at t eats makes within is v q =
    let needed : (s : ℕ) → Contains producers s → IsNeeded steps finals s = λ s h. needed_by steps finals s t ((makes s).0 h) (q.wanted_sound t (subst (Contains w.items) (sym is) (Contains-get_or w.items at 0 within))) in
    record {
      found_sound = λ s h. elim (v.finds.nothing_else s h) [ inl o ↦ q.found_sound s o | inr p ↦ needed s p ];
      wanted_sound = λ i h. elim (v.wanted_by i h) [ inl o ↦ q.wanted_sound i o | inr p ↦ inr (p.0, needed p.0 p.1, (eats p.0 i).0 p.2) ];
      finals_wanted = λ i h. grows_kept w nw i v.grows (q.finals_wanted i h);
      consumed_wanted = λ s i h c. elim (v.wants s i h ((eats s i).1 c)) [ inl o ↦ grows_kept w nw i v.grows (q.consumed_wanted s i o c) | inr p ↦ p ];
      done = λ k h inside s p. elim (cases_lt k at) [
        | inl lt ↦ let there : k < length w.items = omega arith in grows_kept f nf s v.finds.grows (q.done k lt there s (subst (IsStrongProducer steps s) (grows_at w nw k 0 v.grows there) p))
        | inr ge ↦ let e : k ≡ at = omega arith in v.finds.added s ((makes s).1 (subst (IsStrongProducer steps s) (ap (λ j. get_or nw.items j 0) e ∙ (grows_at w nw at 0 v.grows within ∙ sym is)) p))
      ];
    }

pub cons_cases : (x : ℕ) (xs : List ℕ) (y k : ℕ) → k < length (x ∷ xs) → get_or (x ∷ xs) k y ≡ y → (y ≡ x) ⊎ Contains xs y
cons_cases x xs y zero h e = inl (sym e)
cons_cases x xs y (suc k) h e = inr (k, omega arith, e)

-- each step of a list from a final item is found
led_found : (steps : List StepDecl) (finals : List ℕ) (found : Numbers) → ((s t : ℕ) → IsStrongProducer steps s t → Contains finals t → Contains found.items s) → ((s e t : ℕ) → IsStrongProducer steps s t → Contains found.items e → Consumes steps e t → Contains found.items s) → (path : List ℕ) → LeadsFromFinals steps finals path → (s : ℕ) → Contains path s → Contains found.items s
led_found steps finals found final next [] leads s h = none_in_nil s h
led_found steps finals found final next (x ∷ path) leads s h =
    let before : (e : ℕ) → Contains path e → Contains found.items e = led_found steps finals found final next path leads.1 in
    elim (cons_cases x path s h.0 h.1 h.2) [
      | inl e ↦ subst (Contains found.items) (sym e) (elim leads.0.2 [
        | inl f ↦ final x leads.0.0 leads.0.1 f
        | inr c ↦ next x c.0 leads.0.0 leads.0.1 (before c.0 c.1) c.2
      ])
      | inr in' ↦ before s in'
    ]

pub search_all : (steps : List StepDecl) (finals : List ℕ) (found wanted : Numbers) (at : ℕ) → length wanted.items ≤ at → IsSearch steps finals found wanted at → (s : ℕ) → Contains found.items s ↔ IsNeeded steps finals s
search_all steps finals found wanted at all q s =
    let made : (r t : ℕ) → IsStrongProducer steps r t → Contains wanted.items t → Contains found.items r = λ r t p h. let inside : h.0 < length wanted.items = h.1 in q.done h.0 (omega arith) inside r (subst (IsStrongProducer steps r) (sym h.2 ∙ get_or_default wanted.items h.0 t 0 inside) p) in (
      q.found_sound s,
      λ n. led_found steps finals found (λ r t p f. made r t p (q.finals_wanted t f)) (λ r e t p h c. made r t p (q.consumed_wanted e t h c)) (s ∷ n.earlier) n.leads s (0, omega arith, refl),
    )
