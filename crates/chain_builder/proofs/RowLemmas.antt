use Rattle.std.proofs.Common.{◌≡◌, ℕ, ◌+◌, ◌-◌, ◌<◌, ◌≤◌, List, [], ◌∷◌, ◌++◌, length, refl, Contains, get_or, set, take, arith, sym, ◌∙◌, ap, subst, ◌⊎◌, inl, inr, ◌↔◌}
use Rattle.std.proofs.lemmas.List.{length-set, length_push, take_more, take_all, get_or_read, get_or-set_same, get_or-set_other, get_or_append_left, get_or_push, get_or_past}
use Rattle.std.proofs.lemmas.List.Elements.{Contains-push, Contains-append_left, Contains-push_cases, Contains-get_or}
use Rattle.std.proofs.lemmas.Bool.{cases_lt, cases_eq}
use Rattle.std.proofs.lemmas.Grind.{common_steps}
use Rattle.std.specs.List.Sorted.{IsStrictlyIncreasing}
use Rattle.chain_builder.specs.Rows.{row, IsRowUpTo, AddsOne, AddsToRows, IsLinkedWith}

-- the last one differs, so each is below
pub rising_push : (xs : List ℕ) (x : ℕ) → IsRowUpTo x xs → (0 < length xs → get_or xs (length xs - 1) 0 ≡ x → ⊥) → IsRowUpTo x (xs ++ x ∷ [])
rising_push xs x r differs = record {
  rising = λ k h. elim (cases_lt (k + 1) (length xs)) [
    | inl inside ↦ grind (arith, common_steps, r.rising k inside)
    | inr last ↦
        let e : k + 1 ≡ length xs = omega (arith, length_push xs x) in
        let some : 0 < length xs = omega arith in
        let within : k < length xs = omega arith in
        let at : k ≡ length xs - 1 = omega arith in
        let le : get_or xs k 0 ≤ x = r.upto _ (Contains-get_or xs k 0 within) in
        let ne : get_or xs k 0 ≡ x → ⊥ = λ q. differs some (subst (λ (j : ℕ). get_or xs j 0 ≡ x) at q) in
        let lt : get_or xs k 0 < x = omega arith in
        grind (arith, common_steps)
  ];
  upto = λ y h. elim (Contains-push_cases xs x y h) [ inl old ↦ r.upto y old | inr e ↦ omega arith ];
}

pub row_read : (rows : List (List ℕ)) (a : ℕ) (r : List ℕ) → a < length rows → r ≡ get_or rows a r → row rows a ≡ r
row_read rows a r h e = sym (get_or_read rows a r h e [])

pub row_set_same : (rows : List (List ℕ)) (a : ℕ) (r : List ℕ) → a < length rows → row (set rows a r) a ≡ r
row_set_same rows a r h = get_or-set_same rows a r [] h

pub row_set_other : (rows : List (List ℕ)) (a b : ℕ) (r : List ℕ) → (b ≡ a → ⊥) → row (set rows a r) b ≡ row rows b
row_set_other rows a b r h = get_or-set_other rows a b r [] h

pub row_push : (rows : List (List ℕ)) (b : ℕ) (r : List ℕ) → b < length rows → row (rows ++ r ∷ []) b ≡ row rows b
row_push rows b r h = get_or_append_left rows (r ∷ []) [] b h

pub row_pushed : (rows : List (List ℕ)) (b : ℕ) (r : List ℕ) → b ≡ length rows → row (rows ++ r ∷ []) b ≡ r
row_pushed rows b r h = get_or_push rows r [] b (sym h)

pub row_past : (rows : List (List ℕ)) (b : ℕ) → length rows ≤ b → row rows b ≡ []
row_past rows b h = get_or_past rows b [] h

-- one more element of a front
pub front_cases : (xs : List ℕ) (i x y : ℕ) → i < length xs → x ≡ get_or xs i x → Contains (take (i + 1) xs) y → Contains (take i xs) y ⊎ (y ≡ x)
front_cases xs i x y h e c = elim (Contains-push_cases (take i xs) x y (subst (λ (t : List ℕ). Contains t y) (take_more xs i x h ∙ ap (λ z. take i xs ++ z ∷ []) (sym e)) c)) [ inl old ↦ inl old | inr q ↦ inr (sym q) ]

pub front_old : (xs : List ℕ) (i y : ℕ) → i < length xs → Contains (take i xs) y → Contains (take (i + 1) xs) y
front_old xs i y h c = subst (λ (t : List ℕ). Contains t y) (sym (take_more xs i y h)) (Contains-append_left (take i xs) (get_or xs i y ∷ []) y c)

pub front_new : (xs : List ℕ) (i x : ℕ) → i < length xs → x ≡ get_or xs i x → Contains (take (i + 1) xs) x
front_new xs i x h e = subst (λ (t : List ℕ). Contains t x) (sym (take_more xs i x h ∙ ap (λ z. take i xs ++ z ∷ []) (sym e))) (Contains-push (take i xs) x)

pub adds_more : (old cur : List (List ℕ)) (keys : List ℕ) (k x key : ℕ) (r v : List ℕ) → k < length keys → key ≡ get_or keys k key → key < length old → r ≡ get_or cur key r → AddsToRows old (Contains (take k keys)) x cur → AddsOne r x v → AddsToRows old (Contains (take (k + 1) keys)) x (set cur key v)
adds_more old cur keys k x key r v within read inside at a one =
    let there : key < length cur = omega (arith, a.wide) in
    let same : row (set cur key v) key ≡ v = row_set_same cur key v there in
    let was : row cur key ≡ r = row_read cur key r there at in
    record {
      wide = length-set cur key v ∙ a.wide;
      old_kept = λ b y h. elim (cases_eq b key) [
        | inl e ↦ subst (λ (t : List ℕ). Contains t y) (sym (ap (row (set cur key v)) e ∙ same)) (one.old_kept y (subst (λ (t : List ℕ). Contains t y) (ap (row cur) e ∙ was) (a.old_kept b y h)))
        | inr ne ↦ subst (λ (t : List ℕ). Contains t y) (sym (row_set_other cur key b v ne)) (a.old_kept b y h)
      ];
      added = λ b h. elim (cases_eq b key) [
        | inl e ↦ subst (λ (t : List ℕ). Contains t x) (sym (ap (row (set cur key v)) e ∙ same)) one.added
        | inr ne ↦ subst (λ (t : List ℕ). Contains t x) (sym (row_set_other cur key b v ne)) (a.added b (elim (front_cases keys k key b within read h) [ inl c ↦ c | inr e ↦ absurd (ne e) ]))
      ];
      nothing_else = λ b y h. elim (cases_eq b key) [
        | inl e ↦ elim (one.nothing_else y (subst (λ (t : List ℕ). Contains t y) (ap (row (set cur key v)) e ∙ same) h)) [
          | inl c ↦ elim (a.nothing_else b y (subst (λ (t : List ℕ). Contains t y) (sym (ap (row cur) e ∙ was)) c)) [ inl o ↦ inl o | inr p ↦ inr (p.0, front_old keys k b within p.1) ]
          | inr q ↦ inr (q, subst (λ (z : ℕ). Contains (take (k + 1) keys) z) (sym e) (front_new keys k key within read))
        ]
        | inr ne ↦ elim (a.nothing_else b y (subst (λ (t : List ℕ). Contains t y) (row_set_other cur key b v ne) h)) [ inl o ↦ inl o | inr p ↦ inr (p.0, front_old keys k b within p.1) ]
      ];
    }

pub upto_more : (cur : List (List ℕ)) (key x : ℕ) (v : List ℕ) → key < length cur → IsRowUpTo x v → ((b : ℕ) → IsRowUpTo x (row cur b)) → (b : ℕ) → IsRowUpTo x (row (set cur key v) b)
upto_more cur key x v there h all b = elim (cases_eq b key) [
  | inl e ↦ subst (IsRowUpTo x) (sym (ap (row (set cur key v)) e ∙ row_set_same cur key v there)) h
  | inr ne ↦ subst (IsRowUpTo x) (sym (row_set_other cur key b v ne)) (all b)
]

-- no row is named yet
pub adds_none : (old : List (List ℕ)) (Named : ℕ → Type 0) (x : ℕ) → ((b : ℕ) → Named b → ⊥) → AddsToRows old Named x old
adds_none old Named x none = record { wide = refl; old_kept = λ b y h. h; added = λ b h. absurd (none b h); nothing_else = λ b y h. inl h }

-- the same rows, named in other words
pub adds_as : (old : List (List ℕ)) (N M : ℕ → Type 0) (x : ℕ) (new : List (List ℕ)) → ((b : ℕ) → M b → N b) → ((b : ℕ) → N b → M b) → AddsToRows old N x new → AddsToRows old M x new
adds_as old N M x new from to a = record {
  wide = a.wide;
  old_kept = a.old_kept;
  added = λ b h. a.added b (from b h);
  nothing_else = λ b y h. elim (a.nothing_else b y h) [ inl o ↦ inl o | inr p ↦ inr (p.0, to b p.1) ];
}

-- one thing after another
pub adds_both : (old mid new : List (List ℕ)) (N M : ℕ → Type 0) (x : ℕ) → AddsToRows old N x mid → AddsToRows mid M x new → AddsToRows old (λ b. N b ⊎ M b) x new
adds_both old mid new N M x a c = record {
  wide = c.wide ∙ a.wide;
  old_kept = λ b y h. c.old_kept b y (a.old_kept b y h);
  added = λ b h. elim h [ inl n ↦ c.old_kept b x (a.added b n) | inr m ↦ c.added b m ];
  nothing_else = λ b y h. elim (c.nothing_else b y h) [
    | inl o ↦ elim (a.nothing_else b y o) [ inl p ↦ inl p | inr p ↦ inr (p.0, inl p.1) ]
    | inr p ↦ inr (p.0, inr p.1)
  ];
}

-- the links of one more key
pub links_more : (old cur new links : List (List ℕ)) (keys : List ℕ) (k x key : ℕ) → k < length keys → key ≡ get_or keys k key → AddsToRows old (IsLinkedWith links (take k keys)) x cur → AddsToRows cur (Contains (row links key)) x new → AddsToRows old (IsLinkedWith links (take (k + 1) keys)) x new
links_more old cur new links keys k x key within read a one = adds_as old (λ c. IsLinkedWith links (take k keys) c ⊎ Contains (row links key) c) (IsLinkedWith links (take (k + 1) keys)) x new
    (λ c f. elim (front_cases keys k key f.0 within read f.1) [ inl o ↦ inl (f.0, o, f.2) | inr e ↦ inr (subst (λ (z : ℕ). Contains (row links z) c) e f.2) ])
    (λ c f. elim f [ inl g ↦ (g.0, front_old keys k g.0 within g.1, g.2) | inr h ↦ (key, front_new keys k key within read, h) ])
    (adds_both old cur new (IsLinkedWith links (take k keys)) (Contains (row links key)) x a one)

pub links_all : (old new links : List (List ℕ)) (keys : List ℕ) (k x : ℕ) → length keys ≤ k → AddsToRows old (IsLinkedWith links (take k keys)) x new → AddsToRows old (IsLinkedWith links keys) x new
links_all old new links keys k x all a = subst (λ (ks : List ℕ). AddsToRows old (IsLinkedWith links ks) x new) (take_all k keys all) a

-- what the first n numbers are related to is noted in the table
pub record IsMade (R : ℕ → ℕ → Type 0) (table : List (List ℕ)) (n : ℕ) : Type 0 where
  pub from : (a b : ℕ) → Contains (row table b) a → (a < n) × R a b
  pub kept : (a b : ℕ) → a < n → R a b → Contains (row table b) a
  pub rising : (b : ℕ) → IsRowUpTo n (row table b)

none_in : {P : Type 0} (y : ℕ) → Contains [] y → P
none_in y h = absurd (omega (arith, h.1))

pub made_none : (R : ℕ → ℕ → Type 0) (table : List (List ℕ)) → ((b : ℕ) → row table b ≡ []) → IsMade R table 0
made_none R table empty = record {
  from = λ a b h. none_in a (subst (λ (t : List ℕ). Contains t a) (empty b) h);
  kept = λ a b h. absurd (omega arith);
  rising = λ b. record {
    rising = subst IsStrictlyIncreasing (sym (empty b)) (λ k h. absurd (omega arith));
    upto = λ y h. none_in y (subst (λ (t : List ℕ). Contains t y) (empty b) h);
  };
}

pub made_more : (R : ℕ → ℕ → Type 0) (table new : List (List ℕ)) (n : ℕ) → IsMade R table n → AddsToRows table (R n) n new → ((b : ℕ) → IsRowUpTo n (row new b)) → IsMade R new (n + 1)
made_more R table new n m adds up = record {
  from = λ a b h. elim (adds.nothing_else b a h) [
    | inl old ↦ let f : (a < n) × R a b = m.from a b old in (omega arith, f.1)
    | inr p ↦ (omega (arith, p.0), subst (λ (z : ℕ). R z b) (sym p.0) p.1)
  ];
  kept = λ a b h c. elim (cases_eq a n) [
    | inl e ↦ subst (λ (z : ℕ). Contains (row new b) z) (sym e) (adds.added b (subst (λ (z : ℕ). R z b) e c))
    | inr ne ↦ adds.old_kept b a (m.kept a b (omega arith) c)
  ];
  rising = λ b. record { rising = (up b).rising; upto = λ y h. let le : y ≤ n = (up b).upto y h in omega arith };
}

pub empty_push : (table : List (List ℕ)) (v : List ℕ) → v ≡ [] → ((b : ℕ) → row table b ≡ []) → (b : ℕ) → row (table ++ v ∷ []) b ≡ []
empty_push table v e all b = elim (cases_lt b (length table)) [
  | inl lt ↦ row_push table b v lt ∙ all b
  | inr ge ↦ elim (cases_eq b (length table)) [
    | inl q ↦ row_pushed table b v q ∙ e
    | inr ne ↦ row_past (table ++ v ∷ []) b (omega (arith, length_push table v))
  ]
]

pub is_made : (R : ℕ → ℕ → Type 0) (table : List (List ℕ)) (n : ℕ) → ((a b : ℕ) → R a b → a < n) → IsMade R table n → (a b : ℕ) → Contains (row table b) a ↔ R a b
is_made R table n within m a b = (λ h. (m.from a b h).1, λ h. m.kept a b (within a b h) h)

pub row_within : (rows : List (List ℕ)) (s t : ℕ) → Contains (row rows s) t → s < length rows
row_within rows s t h = elim (cases_lt s (length rows)) [ inl lt ↦ lt | inr ge ↦ none_in t (subst (λ (r : List ℕ). Contains r t) (row_past rows s ge) h) ]

pub row_lent : (rows lent : List (List ℕ)) (a : ℕ) (r : List ℕ) → lent ≡ rows → a < length rows → r ≡ get_or lent a r → row rows a ≡ r
row_lent rows lent a r e h read = row_read rows a r h (read ∙ ap (λ (xs : List (List ℕ)). get_or xs a r) e)
