-- The least index that passes a test, under growth and under a cut, and the hint beside it.
use Rattle.std.proofs.Common.{◌≡◌, ℕ, zero, suc, ◌+◌, ◌-◌, ◌<◌, ◌≤◌, Bool, true, false, cond, ltb, eqb, List, [], ◌∷◌, ◌++◌, length, take, Option, Some, None, refl, sym, ap, ◌∙◌, arith}
use Rattle.std.specs.Prelude.{slice_get}
use Rattle.std.proofs.lemmas.Bool.{ltb-true, ltb-false, lt-ltb, le-ltb}
use Rattle.std.proofs.lemmas.Bool.Decides.{nat_tests}
use Rattle.class_pool.specs.declared.entry.Entry.{Entry}
use Rattle.class_pool.specs.Entries.{entry_at}
use Rattle.class_pool.specs.Showing.{passes, first_from}
use Rattle.class_pool.specs.Index.{verified_by}

abbrev pub some : ℕ → Option ℕ
some i = Some i

abbrev none : Option ℕ
none = None

abbrev nothing : Option Entry
nothing = None

-- an index is kept where it is below m
abbrev cut : ℕ → Option ℕ → Option ℕ
cut m None = None
cut m (Some i) = cond (ltb i m) (Some i) None

below_by : (p : Entry → Bool) (j i : ℕ) (es : List Entry) (b : Bool) → ((h : first_from p (j + 1) es ≡ Some i) → j + 1 ≤ i) → cond b (some j) (first_from p (j + 1) es) ≡ Some i → j ≤ i
below_by p j i es true h e = let same : j ≡ i = cc in omega (arith, same)
below_by p j i es false h e = omega (arith, h e)

pub first_not_below : (p : Entry → Bool) (j i : ℕ) (es : List Entry) → first_from p j es ≡ Some i → j ≤ i
first_not_below p j i [] e = absurd cc
first_not_below p j i (x ∷ es) e = below_by p j i es (p x) (first_not_below p (j + 1) i es) e

cut_at : (m : ℕ) (o : Option ℕ) → ((i : ℕ) → o ≡ Some i → m ≤ i) → cut m o ≡ None
cut_at m None h = refl
cut_at m (Some i) h = rw (le-ltb i m (h i refl)) refl

take_step : (p : Entry → Bool) (n j : ℕ) (es : List Entry) (b : Bool) → first_from p (j + 1) (take n es) ≡ cut (j + 1 + n) (first_from p (j + 1) es) → cond b (some j) (first_from p (j + 1) (take n es)) ≡ cut (j + suc n) (cond b (some j) (first_from p (j + 1) es))
take_step p n j es true h = sym (rw (lt-ltb j (j + suc n) (omega arith)) refl)
take_step p n j es false h = h ∙ ap (λ (m : ℕ). cut m (first_from p (j + 1) es)) (omega arith)

first_take : (p : Entry → Bool) (n j : ℕ) (es : List Entry) → first_from p j (take n es) ≡ cut (j + n) (first_from p j es)
first_take p zero j es = sym (cut_at (j + 0) (first_from p j es) (λ i e. omega (arith, first_not_below p j i es e)))
first_take p (suc n) j [] = refl
first_take p (suc n) j (x ∷ es) = take_step p n j es (p x) (first_take p n (j + 1) es)

same_either : (b : Bool) → cond b nothing nothing ≡ nothing
same_either true = refl
same_either false = refl

ltb_suc : (i n : ℕ) → ltb i n ≡ ltb (suc i) (suc n)
ltb_suc i n = grind (arith, nat_tests)

pub not_zero : (i : ℕ) → eqb (suc i) 0 ≡ false
not_zero i = grind (arith, nat_tests)

in_cut : (m i : ℕ) (b : Bool) → i < m → cond b (some i) none ≡ cut m (cond b (some i) none)
in_cut m i true lt = sym (rw (lt-ltb i m lt) refl)
in_cut m i false lt = refl

out_cut : (m i : ℕ) (b : Bool) → m ≤ i → cut m (cond b (some i) none) ≡ none
out_cut m i true le = rw (le-ltb i m le) refl
out_cut m i false le = refl

-- the entry at an index, under a cut
get_take : (n i : ℕ) (es : List Entry) → slice_get (take n es) i ≡ cond (ltb i n) (slice_get es i) None
get_take zero i es = rw (le-ltb i 0 (omega arith)) refl
get_take (suc n) i [] = sym (same_either (ltb i (suc n)))
get_take (suc n) zero (x ∷ es) = rw (lt-ltb 0 (suc n) (omega arith)) refl
get_take (suc n) (suc i) (x ∷ es) = get_take n i es ∙ ap (λ (b : Bool). cond b (slice_get es i) None) (ltb_suc i n)

pub index_back : (i : ℕ) → suc i - 1 ≡ i
index_back i = omega arith

pub at_suc : (es : List Entry) (i : ℕ) → entry_at es (suc i) ≡ slice_get es i
at_suc es i = rw (not_zero i, index_back i) refl

at_index : (p : Entry → Bool) (n i : ℕ) (es : List Entry) (b : Bool) → ltb i n ≡ b → verified_by p (take n es) (Some (suc i)) ≡ cut (1 + n) (verified_by p es (Some (suc i)))
at_index p n i es true w = rw (not_zero i, index_back i, get_take n i es, w) (in_cut (1 + n) (suc i) (passes p (slice_get es i)) (omega (arith, ltb-true i n w)))
at_index p n i es false w = rw (not_zero i, index_back i, get_take n i es, w) (sym (out_cut (1 + n) (suc i) (passes p (slice_get es i)) (omega (arith, ltb-false i n w))))

verified_take : (p : Entry → Bool) (n : ℕ) (es : List Entry) (o : Option ℕ) → verified_by p (take n es) o ≡ cut (1 + n) (verified_by p es o)
verified_take p n es None = refl
verified_take p n es (Some zero) = refl
verified_take p n es (Some (suc i)) = at_index p n i es _ refl

pub kept : (p : Entry → Bool) (n : ℕ) (es : List Entry) (o : Option ℕ) → verified_by p es o ≡ first_from p 1 es → verified_by p (take n es) o ≡ first_from p 1 (take n es)
kept p n es o e = verified_take p n es o ∙ ap (cut (1 + n)) e ∙ sym (first_take p n 1 es)

-- ---- tests that agree on the entries

abbrev pub Agree : (Entry → Bool) → (Entry → Bool) → List Entry → Type 0
Agree p q es = (i : ℕ) (x : Entry) → slice_get es i ≡ Some x → p x ≡ q x

pub first_agree : (p q : Entry → Bool) (j : ℕ) (es : List Entry) → Agree p q es → first_from p j es ≡ first_from q j es
first_agree p q j [] h = refl
first_agree p q j (x ∷ es) h =
    ap (λ (b : Bool). cond b (some j) (first_from p (j + 1) es)) (h 0 x refl) ∙ ap (λ (o : Option ℕ). cond (q x) (some j) o) (first_agree p q (j + 1) es (λ i y e. h (suc i) y e))

passes_agree : (p q : Entry → Bool) (es : List Entry) (i : ℕ) (o : Option Entry) → Agree p q es → slice_get es i ≡ o → passes p o ≡ passes q o
passes_agree p q es i None h e = refl
passes_agree p q es i (Some x) h e = h i x e

pub verified_agree : (p q : Entry → Bool) (es : List Entry) (o : Option ℕ) → Agree p q es → verified_by p es o ≡ verified_by q es o
verified_agree p q es None h = refl
verified_agree p q es (Some zero) h = refl
verified_agree p q es (Some (suc i)) h = rw (not_zero i, index_back i) (ap (λ (b : Bool). cond b (some (suc i)) none) (passes_agree p q es i (slice_get es i) h refl))

-- ---- one more entry

abbrev pub or_else : Option ℕ → Option ℕ → Option ℕ
or_else None b = b
or_else (Some i) b = Some i

more_step : (p : Entry → Bool) (j n : ℕ) (e : Entry) (b : Bool) (f g : Option ℕ) → f ≡ or_else g (cond (p e) (some (j + 1 + n)) None) → cond b (some j) f ≡ or_else (cond b (some j) g) (cond (p e) (some (j + suc n)) None)
more_step p j n e true f g h = refl
more_step p j n e false f g h = h ∙ ap (λ (m : ℕ). or_else g (cond (p e) (some m) None)) (omega arith)

pub first_more : (p : Entry → Bool) (j : ℕ) (e : Entry) (es : List Entry) → first_from p j (es ++ e ∷ []) ≡ or_else (first_from p j es) (cond (p e) (some (j + length es)) None)
first_more p j e [] = ap (λ (m : ℕ). cond (p e) (some m) None) (omega arith)
first_more p j e (x ∷ es) = more_step p j (length es) e (p x) _ _ (first_more p (j + 1) e es)

others_same : (p : Entry → Bool) (e : Entry) (es : List Entry) (i : ℕ) → p e ≡ false → passes p (slice_get (es ++ e ∷ []) i) ≡ passes p (slice_get es i)
others_same p e [] zero w = w
others_same p e [] (suc i) w = refl
others_same p e (x ∷ es) zero w = refl
others_same p e (x ∷ es) (suc i) w = others_same p e es i w

pub verified_more : (p : Entry → Bool) (e : Entry) (es : List Entry) (o : Option ℕ) → p e ≡ false → verified_by p (es ++ e ∷ []) o ≡ verified_by p es o
verified_more p e es None w = refl
verified_more p e es (Some zero) w = refl
verified_more p e es (Some (suc i)) w = rw (not_zero i, index_back i, others_same p e es i w) refl

pub get_last : (e : Entry) (es : List Entry) → slice_get (es ++ e ∷ []) (length es) ≡ Some e
get_last e [] = refl
get_last e (x ∷ es) = get_last e es

pub get_front : (es more : List Entry) (i : ℕ) → i < length es → slice_get (es ++ more) i ≡ slice_get es i
get_front [] more i lt = absurd (omega (arith, lt))
get_front (x ∷ es) more zero lt = refl
get_front (x ∷ es) more (suc i) lt = get_front es more i (omega (arith, lt))

pub plus_one : (n : ℕ) → n + 1 ≡ suc n
plus_one n = omega arith

pub at_last : (e : Entry) (es : List Entry) → entry_at (es ++ e ∷ []) (length es + 1) ≡ Some e
at_last e es = ap (entry_at (es ++ e ∷ [])) (plus_one (length es)) ∙ at_suc (es ++ e ∷ []) (length es) ∙ get_last e es

still_passes : (p : Entry → Bool) (e : Entry) (es : List Entry) (i : ℕ) → passes p (slice_get es i) ≡ true → passes p (slice_get (es ++ e ∷ []) i) ≡ true
still_passes p e [] zero w = absurd cc
still_passes p e [] (suc i) w = absurd cc
still_passes p e (x ∷ es) zero w = w
still_passes p e (x ∷ es) (suc i) w = still_passes p e es i w

same_at : (p : Entry → Bool) (e : Entry) (es : List Entry) (n i : ℕ) (b : Bool) → passes p (slice_get es n) ≡ b → cond b (some (suc n)) none ≡ some i → verified_by p (es ++ e ∷ []) (Some (suc n)) ≡ Some i
same_at p e es n i true w h = rw (not_zero n, index_back n, still_passes p e es n w) h
same_at p e es n i false w h = absurd cc

looked_at : (p : Entry → Bool) (es : List Entry) (n : ℕ) → verified_by p es (Some (suc n)) ≡ cond (passes p (slice_get es n)) (some (suc n)) none
looked_at p es n = rw (not_zero n, index_back n) refl

-- what is there already is found as before
pub same_hint : (p : Entry → Bool) (e : Entry) (es : List Entry) (o : Option ℕ) (i : ℕ) → verified_by p es o ≡ Some i → verified_by p (es ++ e ∷ []) o ≡ Some i
same_hint p e es None i h = absurd cc
same_hint p e es (Some zero) i h = absurd cc
same_hint p e es (Some (suc n)) i h = same_at p e es n i (passes p (slice_get es n)) refl (sym (looked_at p es n) ∙ h)

-- the least index passes
first_by : (p : Entry → Bool) (j i : ℕ) (x : Entry) (es : List Entry) (b : Bool) → p x ≡ b → ((h : first_from p (j + 1) es ≡ Some i) → (n : ℕ) × (i ≡ j + 1 + n) × (passes p (slice_get es n) ≡ true)) → cond b (some j) (first_from p (j + 1) es) ≡ Some i
    → (n : ℕ) × (i ≡ j + n) × (passes p (slice_get (x ∷ es) n) ≡ true)
first_by p j i x es true w h e = let same : j ≡ i = cc in (0, omega (arith, same), w)
first_by p j i x es false w h e = let g = h e in (suc g.0, omega (arith, g.1), g.2)

first_passes : (p : Entry → Bool) (j i : ℕ) (es : List Entry) → first_from p j es ≡ Some i → (n : ℕ) × (i ≡ j + n) × (passes p (slice_get es n) ≡ true)
first_passes p j i [] e = absurd cc
first_passes p j i (x ∷ es) e = first_by p j i x es (p x) refl (first_passes p (j + 1) i es) e

one_plus : (n : ℕ) → 1 + n ≡ suc n
one_plus n = omega arith

pub least_passes : (p : Entry → Bool) (i : ℕ) (es : List Entry) → first_from p 1 es ≡ Some i → passes p (entry_at es i) ≡ true
least_passes p i es e =
    let g = first_passes p 1 i es e in
    ap (λ (k : ℕ). passes p (entry_at es k)) (g.1 ∙ one_plus g.0) ∙ ap (passes p) (at_suc es g.0) ∙ g.2
