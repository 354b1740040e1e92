use Rattle.std.proofs.Common.{◌≡◌, ℕ, ◌+◌, ◌<◌, ◌≤◌, List, [], ◌∷◌, length, Contains, get_or, take, drop, arith, sym, ◌∙◌, ap, subst, ◌⊎◌, inl, inr, get_or-set_same, get_or-set_other}
use Rattle.std.proofs.lemmas.List.Elements.{Contains-append_left, Contains-push_cases, Contains-get_or}
use Rattle.std.proofs.lemmas.List.{append-nil, take_all, take-append-le, get_or_default, get_or_append_left, get_or_push, length-append, drop_more, take-append-drop}
use Rattle.std.proofs.lemmas.Bool.{cases_lt, cases_eq}
use Rattle.chain_builder.specs.Rows.{row, IsTransposed, AreBelow}
use Rattle.chain_builder.specs.Marks.{Numbers, Grows}
use Rattle.chain_builder.specs.Core.{Releases, AreOutside, AreLeftWithOne, AreInOrder}
use Rattle.chain_builder.proofs.ListLemmas.{in_front_cases, none_in_nil}
use Rattle.chain_builder.proofs.NeededLemmas.{grows_kept, cons_cases}
use Rattle.chain_builder.proofs.RowLemmas.{row_within}

-- the number at the place of s waits for what stands there; those before it are removed
pub record IsPeeling (into : List (List ℕ)) (removed : Numbers) (next : List ℕ) (at : ℕ) (Excused : ℕ → Type 0) : Type 0 where
  pub passed : (s j : ℕ) → j < get_or next s 0 → j < length (row into s) → Contains removed.items (get_or (row into s) j 0)
  pub outside : AreOutside into removed
  pub order : AreInOrder into removed.items
  pub waits : (s : ℕ) → s < length into → Excused s ⊎ (Contains removed.items s ⊎ ((get_or next s 0 < length (row into s)) × (Contains (take at removed.items) (get_or (row into s) (get_or next s 0) 0) → ⊥)))

pub release_grows : (removed after : Numbers) (next row : List ℕ) (d : ℕ) (next_after : List ℕ) → Releases removed next row d after next_after → Grows removed after
release_grows removed after next row d next_after r = elim r.items [
  | inl e ↦ record { limit = r.limit; rest = []; is = e ∙ sym (append-nil removed.items) }
  | inr e ↦ record { limit = r.limit; rest = d ∷ []; is = e.0 }
]

pub release_keeps : (into : List (List ℕ)) (removed after : Numbers) (next next_after : List ℕ) (at d : ℕ) (E F : ℕ → Type 0) → ((s : ℕ) → E s → (s ≡ d) ⊎ F s) → at ≤ length removed.items → d < length next → Releases removed next (row into d) d after next_after → IsPeeling into removed next at E → IsPeeling into after next_after at F
release_keeps into removed after next next_after at d E F excuse le within r p =
    let g : Grows removed after = release_grows removed after next (row into d) d next_after r in
    let here : get_or next_after d 0 ≡ r.place = ap (λ (xs : List ℕ). get_or xs d 0) r.moved ∙ get_or-set_same next d r.place 0 within in
    let other : (s : ℕ) → (s ≡ d → ⊥) → get_or next_after s 0 ≡ get_or next s 0 = λ s ne. ap (λ (xs : List ℕ). get_or xs s 0) r.moved ∙ get_or-set_other next d s r.place 0 ne in
    let front : take at after.items ≡ take at removed.items = ap (take at) g.is ∙ take-append-le at removed.items g.rest le in
    record {
      passed = λ s j h inside. elim (cases_eq s d) [
        | inl e ↦ grows_kept removed after _ g (subst (λ (xs : List ℕ). Contains removed.items (get_or xs j 0)) (sym (ap (row into) e)) (r.passed j (let q : get_or next_after s 0 ≡ r.place = ap (λ z. get_or next_after z 0) e ∙ here in omega arith) (let q : length (row into s) ≡ length (row into d) = ap (λ z. length (row into z)) e in omega arith)))
        | inr ne ↦ grows_kept removed after _ g (p.passed s j (let q : get_or next_after s 0 ≡ get_or next s 0 = other s ne in omega arith) inside)
      ];
      outside = λ c closed s in' gone. elim r.items [
        | inl e ↦ p.outside c closed s in' (subst (λ (xs : List ℕ). Contains xs s) e gone)
        | inr e ↦ elim (Contains-push_cases removed.items d s (subst (λ (xs : List ℕ). Contains xs s) e.0 gone)) [
          | inl old ↦ p.outside c closed s in' old
          | inr q ↦
              let f = closed s in' in
              let at_d : Contains (row into d) f.0 = subst (λ z. Contains (row into z) f.0) (sym q) f.2 in
              let placed : at_d.0 < length (row into d) = at_d.1 in
              p.outside c closed f.0 f.1 (subst (Contains removed.items) (get_or_default (row into d) at_d.0 0 f.0 placed ∙ at_d.2) (r.passed at_d.0 (omega (arith, e.1, here)) placed))
        ]
      ];
      order = λ k h q c. elim r.items [
        | inl e ↦ subst (λ (xs : List ℕ). Contains (take k xs) q) (sym e) (p.order k (omega (arith, h, ap length e)) q (subst (λ (xs : List ℕ). Contains (row into (get_or xs k 0)) q) e c))
        | inr e ↦ elim (cases_lt k (length removed.items)) [
          | inl lt ↦
              let same : get_or after.items k 0 ≡ get_or removed.items k 0 = ap (λ (xs : List ℕ). get_or xs k 0) e.0 ∙ get_or_append_left removed.items (d ∷ []) 0 k lt in
              let before : take k after.items ≡ take k removed.items = ap (take k) e.0 ∙ take-append-le k removed.items (d ∷ []) (omega arith) in
              subst (λ (xs : List ℕ). Contains xs q) (sym before) (p.order k lt q (subst (λ z. Contains (row into z) q) same c))
          | inr ge ↦
              let last : k ≡ length removed.items = omega (arith, h, ap length e.0, length-append removed.items (d ∷ [])) in
              let same : get_or after.items k 0 ≡ d = ap (λ (xs : List ℕ). get_or xs k 0) e.0 ∙ get_or_push removed.items d 0 k (sym last) in
              let before : take k after.items ≡ removed.items = ap (take k) e.0 ∙ (take-append-le k removed.items (d ∷ []) (omega arith) ∙ take_all k removed.items (omega arith)) in
              let at_d : Contains (row into d) q = subst (λ z. Contains (row into z) q) same c in
              let placed : at_d.0 < length (row into d) = at_d.1 in
              subst (λ (xs : List ℕ). Contains xs q) (sym before) (subst (Contains removed.items) (get_or_default (row into d) at_d.0 0 q placed ∙ at_d.2) (r.passed at_d.0 (omega (arith, e.1, here)) placed))
        ]
      ];
      waits = λ s inside. elim (cases_eq s d) [
        | inl e ↦ elim r.ends [
          | inl w ↦ inr (inr (let q : get_or next_after s 0 ≡ r.place = ap (λ z. get_or next_after z 0) e ∙ here in let k : length (row into s) ≡ length (row into d) = ap (λ z. length (row into z)) e in omega (arith, w.0), λ c. w.1 (subst (Contains after.items) (ap (λ (xs : List ℕ). get_or xs (get_or next_after s 0) 0) (ap (row into) e) ∙ ap (λ z. get_or (row into d) z 0) (ap (λ z. get_or next_after z 0) e ∙ here)) (in_front at after.items _ c))))
          | inr w ↦ inr (inl (subst (Contains after.items) (sym e) w.1))
        ]
        | inr ne ↦ elim (p.waits s inside) [
          | inl x ↦ elim (excuse s x) [ inl e ↦ absurd (ne e) | inr f ↦ inl f ]
          | inr w ↦ elim w [
            | inl old ↦ inr (inl (grows_kept removed after s g old))
            | inr v ↦ inr (inr (let q : get_or next_after s 0 ≡ get_or next s 0 = other s ne in omega (arith, v.0), λ c. v.1 (subst (Contains (take at removed.items)) (ap (λ z. get_or (row into s) z 0) (other s ne)) (subst (λ (xs : List ℕ). Contains xs (get_or (row into s) (get_or next_after s 0) 0)) front c))))
          ]
        ]
      ];
    }
  where
    in_front : (n : ℕ) (xs : List ℕ) (y : ℕ) → Contains (take n xs) y → Contains xs y
    in_front n xs y h = subst (λ (ys : List ℕ). Contains ys y) (take-append-drop n xs) (Contains-append_left (take n xs) (drop n xs) y h)

pub peeling_starts : (into : List (List ℕ)) (removed : Numbers) (next : List ℕ) → removed.items ≡ [] → ((s : ℕ) → get_or next s 0 ≡ 0) → IsPeeling into removed next 0 (λ s. 0 ≤ s)
peeling_starts into removed next empty zeros = record {
  passed = λ s j h inside. absurd (let q : get_or next s 0 ≡ 0 = zeros s in omega arith);
  outside = λ c closed s in' gone. none_in_nil s (subst (λ (xs : List ℕ). Contains xs s) empty gone);
  order = λ k h q c. absurd (omega (arith, h, ap length empty));
  waits = λ s inside. inl (omega arith);
}

pub excuse_weaker : (into : List (List ℕ)) (removed : Numbers) (next : List ℕ) (at : ℕ) (E F : ℕ → Type 0) → ((s : ℕ) → s < length into → E s → F s) → IsPeeling into removed next at E → IsPeeling into removed next at F
excuse_weaker into removed next at E F weaker p = record {
  passed = p.passed;
  outside = p.outside;
  order = p.order;
  waits = λ s inside. elim (p.waits s inside) [ inl e ↦ inl (weaker s inside e) | inr w ↦ inr w ];
}

-- one more that is removed is looked at: what waits for it is to be released
pub peeling_next : (into dependents : List (List ℕ)) (removed : Numbers) (next : List ℕ) (at x : ℕ) → IsTransposed into dependents → at < length removed.items → x ≡ get_or removed.items at 0 → IsPeeling into removed next at (λ s. s < 0) → IsPeeling into removed next (at + 1) (λ s. Contains (row dependents x) s)
peeling_next into dependents removed next at x turned within read p = record {
  passed = p.passed;
  outside = p.outside;
  order = p.order;
  waits = λ s inside. elim (p.waits s inside) [
    | inl e ↦ absurd (omega (arith, e))
    | inr w ↦ elim w [
      | inl old ↦ inr (inl old)
      | inr v ↦ elim (cases_eq (get_or (row into s) (get_or next s 0) 0) x) [
        | inl e ↦ inl ((turned s x).1 (subst (Contains (row into s)) e (Contains-get_or (row into s) (get_or next s 0) 0 v.0)))
        | inr ne ↦ inr (inr (v.0, λ c. elim (in_front_cases removed.items at x _ within (read ∙ get_or_default removed.items at 0 x within) c) [ inl o ↦ v.1 o | inr q ↦ ne q ]))
      ]
    ]
  ];
}

-- what is left to be released after d
pub rest_cases : (xs : List ℕ) (i d s : ℕ) → i < length xs → d ≡ get_or xs i 0 → Contains (drop i xs) s → (s ≡ d) ⊎ Contains (drop (i + 1) xs) s
rest_cases xs i d s within read h =
    let c : Contains (d ∷ drop (i + 1) xs) s = subst (λ (ys : List ℕ). Contains ys s) (drop_more xs i 0 within ∙ ap (λ z. z ∷ drop (i + 1) xs) (sym read)) h in
    cons_cases d (drop (i + 1) xs) s c.0 c.1 c.2

pub left_all : (into : List (List ℕ)) (removed : Numbers) (next : List ℕ) (at : ℕ) → AreBelow into (length into) → length removed.items ≤ at → IsPeeling into removed next at (λ s. s < 0) → AreLeftWithOne into removed
left_all into removed next at below all p s inside left = elim (p.waits s inside) [
  | inl e ↦ absurd (omega (arith, e))
  | inr w ↦ elim w [
    | inl gone ↦ absurd (left gone)
    | inr v ↦
        let there : Contains (row into s) (get_or (row into s) (get_or next s 0) 0) = Contains-get_or (row into s) (get_or next s 0) 0 v.0 in
        (get_or (row into s) (get_or next s 0) 0, below s _ there, there, λ c. v.1 (subst (λ (xs : List ℕ). Contains xs (get_or (row into s) (get_or next s 0) 0)) (sym (take_all at removed.items all)) c))
  ]
]

pub grows_length : (a b : Numbers) → Grows a b → length a.items ≤ length b.items
grows_length a b g = omega (arith, ap length g.is, length-append a.items g.rest)

-- what waits is a number of a row
pub dependent_within : (into dependents : List (List ℕ)) (waiting : List ℕ) (x i : ℕ) → IsTransposed into dependents → row dependents x ≡ waiting → i < length waiting → get_or waiting i 0 < length into
dependent_within into dependents waiting x i turned is within = row_within into _ x ((turned (get_or waiting i 0) x).0 (subst (λ (xs : List ℕ). Contains xs (get_or waiting i 0)) (sym is) (Contains-get_or waiting i 0 within)))
