-- What is left to enter, while a pool grows.
use Rattle.std.proofs.Common.{◌≡◌, ℕ, zero, suc, ◌+◌, ◌-◌, ◌<◌, ◌≤◌, Bool, true, false, ◌&&◌, cond, List, [], ◌∷◌, ◌++◌, length, Option, Some, None, refl, sym, ap, subst, ◌∙◌, inl, inr, ◌⊎◌, arith, append_assoc}
use Rattle.std.specs.Prelude.{slice_get}
use Rattle.class_pool.specs.declared.entry.Entry.{Entry}
use Rattle.class_pool.specs.declared.entry.Entry.TheVariants as entry
use Rattle.class_pool.specs.declared.shown.Shown.{Shown}
use Rattle.class_pool.specs.declared.shown.Shown.TheVariants as shown
use Rattle.class_pool.specs.Entries.{entry_at, is_utf8, is_class, is_name_type, refers, bad, bad_from}
use Rattle.class_pool.specs.Index.{IsBelow}
use Rattle.class_pool.specs.Showing.{is_text, is_class_of, is_pair_of, shows, passes, first_from, least, Holds}
use Rattle.class_pool.proofs.Firsts.{some, at_suc, least_passes}
use Rattle.class_pool.proofs.Shows.{both, and_true, at_past, at_front, holds_more}
use Rattle.class_pool.specs.Growth.{ReferRight, size_of, size, cost, unless_found, left, one, weight, Among, rank, AreBelow}

-- ---- the least index

abbrev AllFail : (Entry → Bool) → List Entry → Type 0
AllFail p [] = Unit {0}
AllFail p (x ∷ xs) = (p x ≡ false) × AllFail p xs

fail_by : (p : Entry → Bool) (j : ℕ) (x : Entry) (xs : List Entry) (b : Bool) → p x ≡ b → cond b (some j) (first_from p (j + 1) xs) ≡ None → (p x ≡ false) × (first_from p (j + 1) xs ≡ None)
fail_by p j x xs true w e = absurd cc
fail_by p j x xs false w e = (w, e)

pub none_fails : (p : Entry → Bool) (j : ℕ) (xs : List Entry) → first_from p j xs ≡ None → AllFail p xs
none_fails p j [] e = tt
none_fails p j (x ∷ xs) e = let h = fail_by p j x xs (p x) refl e in (h.0, none_fails p (j + 1) xs h.1)

pub fails_none : (p : Entry → Bool) (j : ℕ) (xs : List Entry) → AllFail p xs → first_from p j xs ≡ None
fails_none p j [] h = refl
fails_none p j (x ∷ xs) h = rw h.0 (fails_none p (j + 1) xs h.1)

fails_append : (p : Entry → Bool) (xs ys : List Entry) → AllFail p xs → AllFail p ys → AllFail p (xs ++ ys)
fails_append p [] ys h k = k
fails_append p (x ∷ xs) ys h k = (h.0, fails_append p xs ys h.1 k)

-- an index that holds it is no less than the least
abbrev Found : Option ℕ → Type 0
Found o = (i : ℕ) × (o ≡ Some i)

found_by : (p : Entry → Bool) (j : ℕ) (x : Entry) (xs : List Entry) (b : Bool) → Found (first_from p (j + 1) xs) → Found (cond b (some j) (first_from p (j + 1) xs))
found_by p j x xs true h = (j, refl)
found_by p j x xs false h = h

found_here : (j : ℕ) (b : Bool) (o : Option ℕ) → b ≡ true → Found (cond b (some j) o)
found_here j true o e = (j, refl)
found_here j false o e = absurd cc

found_at : (p : Entry → Bool) (j n : ℕ) (xs : List Entry) → passes p (slice_get xs n) ≡ true → Found (first_from p j xs)
found_at p j zero [] h = absurd cc
found_at p j (suc n) [] h = absurd cc
found_at p j zero (x ∷ xs) h = found_here j (p x) (first_from p (j + 1) xs) h
found_at p j (suc n) (x ∷ xs) h = found_by p j x xs (p x) (found_at p (j + 1) n xs h)

pub held_found : (w : Shown) (es : List Entry) (i : ℕ) → Holds es i w → Found (least w es)
held_found w es zero h = absurd cc
held_found w es (suc n) h = found_at (shows es w) 1 n es (ap (passes (shows es w)) (sym (at_suc es n)) ∙ h)

-- what is found stays found
pub found_more : (w : Shown) (es more : List Entry) (i : ℕ) → least w es ≡ Some i → Found (least w (es ++ more))
found_more w es more i e = held_found w (es ++ more) i (holds_more es more i w (least_passes (shows es w) i es e))

-- ---- the sum

pub size_append : (f : List ℕ → ℕ) (k : ℕ) (es fs : List Entry) → size f k (es ++ fs) ≡ size f k es + size f k fs
size_append f k [] fs = omega arith
size_append f k (e ∷ es) fs = omega (arith, size_append f k es fs)

pub size_one : (es : List Entry) → size one 1 es ≡ length es
size_one [] = refl
size_one (entry.Utf8 t ∷ es) = omega (arith, size_one es)
size_one (_ ∷ es) = omega (arith, size_one es)

less_by : (n : ℕ) (o q : Option ℕ) → ((i : ℕ) → o ≡ Some i → Found q) → unless_found q n ≤ unless_found o n
less_by n None None h = omega arith
less_by n None (Some j) h = omega arith
less_by n (Some i) None h = absurd (let g = h i refl in let e = g.1 in cc)
less_by n (Some i) (Some j) h = omega arith

pub left_less : (f : List ℕ → ℕ) (k : ℕ) (us : List Shown) (es more : List Entry) → left f k us (es ++ more) ≤ left f k us es
left_less f k [] es more = omega arith
left_less f k (u ∷ us) es more =
    omega (arith, left_less f k us es more, less_by (cost f k u) (least u es) (least u (es ++ more)) (λ i e. found_more u es more i e))

gone : (n : ℕ) (o q : Option ℕ) → o ≡ None → Found q → unless_found q n + n ≤ unless_found o n
gone n None (Some j) e h = omega arith
gone n None None e h = absurd (let g = h.1 in cc)
gone n (Some i) q e h = absurd cc

pub left_drops : (f : List ℕ → ℕ) (k : ℕ) (us : List Shown) (w : Shown) (es more : List Entry) → Among w us → least w es ≡ None → Found (least w (es ++ more)) → left f k us (es ++ more) + cost f k w ≤ left f k us es
left_drops f k [] w es more i e h = absurd i
left_drops f k (u ∷ us) w es more (inl same) e h =
    let at : left f k (w ∷ us) (es ++ more) + cost f k w ≤ left f k (w ∷ us) es = omega (arith, gone (cost f k w) (least w es) (least w (es ++ more)) e h, left_less f k us es more) in
    subst (λ v. left f k (v ∷ us) (es ++ more) + cost f k w ≤ left f k (v ∷ us) es) (sym same) at
left_drops f k (u ∷ us) w es more (inr i) e h =
    omega (arith, left_drops f k us w es more i e h, less_by (cost f k u) (least u es) (least u (es ++ more)) (λ j q. found_more u es more j q))

-- what is absent is left
pub left_some : (f : List ℕ → ℕ) (k : ℕ) (us : List Shown) (w : Shown) (es : List Entry) → Among w us → least w es ≡ None → cost f k w ≤ left f k us es
left_some f k [] w es i e = absurd i
left_some f k (u ∷ us) w es (inl same) e =
    let at : cost f k w ≤ left f k (w ∷ us) es = rw e (omega arith) in
    subst (λ v. cost f k w ≤ left f k (v ∷ us) es) (sym same) at
left_some f k (u ∷ us) w es (inr i) e = omega (arith, left_some f k us w es i e)

at_most : (n : ℕ) (o : Option ℕ) → unless_found o n ≤ n
at_most n None = omega arith
at_most n (Some i) = omega arith

pub left_at_most : (f : List ℕ → ℕ) (k : ℕ) (us : List Shown) (es : List Entry) → left f k us es ≤ weight f k us
left_at_most f k [] es = omega arith
left_at_most f k (u ∷ us) es = omega (arith, left_at_most f k us es, at_most (cost f k u) (least u es))

-- ---- references of the right kind

pub kind_in : (t : Option Entry → Bool) (es : List Entry) (n : ℕ) → t None ≡ false → t (entry_at es n) ≡ true → n ≤ length es
kind_in t es n e h = at (Rattle.std.proofs.lemmas.Bool.cases_lt (length es) n)
  where
    at : (length es < n) ⊎ (n ≤ length es) → n ≤ length es
    at (inl lt) = absurd (let k : true ≡ false = sym h ∙ (ap t (at_past es n lt) ∙ e) in cc)
    at (inr le) = le

kind_more : (t : Option Entry → Bool) (es more : List Entry) (n : ℕ) → t None ≡ false → t (entry_at es n) ≡ true → t (entry_at (es ++ more) n) ≡ true
kind_more t es more n e h = ap t (at_front es more n (kind_in t es n e h)) ∙ h

pub refers_more : (es more : List Entry) (x : Entry) → refers es x ≡ true → refers (es ++ more) x ≡ true
refers_more es more (entry.Class n) h = kind_more is_utf8 es more n refl h
refers_more es more (entry.Str n) h = kind_more is_utf8 es more n refl h
refers_more es more (entry.NameType a b) h = let g = both _ _ h in and_true _ _ (kind_more is_utf8 es more a refl g.0) (kind_more is_utf8 es more b refl g.1)
refers_more es more (entry.Field a b) h = let g = both _ _ h in and_true _ _ (kind_more is_class es more a refl g.0) (kind_more is_name_type es more b refl g.1)
refers_more es more (entry.Method a b) h = let g = both _ _ h in and_true _ _ (kind_more is_class es more a refl g.0) (kind_more is_name_type es more b refl g.1)
refers_more es more (entry.Interface a b) h = let g = both _ _ h in and_true _ _ (kind_more is_class es more a refl g.0) (kind_more is_name_type es more b refl g.1)
refers_more es more _ h = refl

pub every_more : (es more xs : List Entry) → ReferRight es xs → ReferRight (es ++ more) xs
every_more es more [] h = tt
every_more es more (x ∷ xs) h = (refers_more es more x h.0, every_more es more xs h.1)

pub every_append : (pool xs ys : List Entry) → ReferRight pool xs → ReferRight pool ys → ReferRight pool (xs ++ ys)
every_append pool [] ys h k = k
every_append pool (x ∷ xs) ys h k = (h.0, every_append pool xs ys h.1 k)

every_get : (pool xs : List Entry) (n : ℕ) (x : Entry) → ReferRight pool xs → slice_get xs n ≡ Some x → refers pool x ≡ true
every_get pool [] zero x h e = absurd cc
every_get pool [] (suc n) x h e = absurd cc
every_get pool (y ∷ xs) zero x h e = let same : y ≡ x = cc in subst (λ z. refers pool z ≡ true) same h.0
every_get pool (y ∷ xs) (suc n) x h e = every_get pool xs n x h.1 e

every_at : (es : List Entry) (n : ℕ) (x : Entry) → ReferRight es es → entry_at es n ≡ Some x → refers es x ≡ true
every_at es zero x h e = absurd cc
every_at es (suc n) x h e = every_get es es n x h (sym (at_suc es n) ∙ e)

none_bad : (pool : List Entry) (i : ℕ) (xs : List Entry) → ReferRight pool xs → bad_from pool i xs ≡ 0
none_bad pool i [] h = refl
none_bad pool i (x ∷ xs) h = rw h.0 (none_bad pool (i + 1) xs h.1)

pub not_bad : (es : List Entry) → ReferRight es es → bad es ≡ 0
not_bad es h = none_bad es 1 es h

good_by : (pool : List Entry) (x : Entry) (i : ℕ) (xs : List Entry) (b : Bool) → 1 ≤ i → refers pool x ≡ b → cond b (bad_from pool (i + 1) xs) i ≡ 0 → (refers pool x ≡ true) × (bad_from pool (i + 1) xs ≡ 0)
good_by pool x i xs true some t e = (t, e)
good_by pool x i xs false some t e = absurd (omega (arith, some, e))

none_good : (pool : List Entry) (i : ℕ) (xs : List Entry) → 1 ≤ i → bad_from pool i xs ≡ 0 → ReferRight pool xs
none_good pool i [] some e = tt
none_good pool i (x ∷ xs) some e = let g = good_by pool x i xs (refers pool x) some refl e in (g.0, none_good pool (i + 1) xs (omega arith) g.1)

pub bad_right : (es : List Entry) → bad es ≡ 0 → ReferRight es es
bad_right es e = none_good es 1 es (omega arith) e

is_text_utf8 : (t : List ℕ) (o : Option Entry) → is_text t o ≡ true → is_utf8 o ≡ true
is_text_utf8 t (Some (entry.Utf8 u)) h = refl
is_text_utf8 t _ h = absurd cc

is_class_class : (es : List Entry) (t : List ℕ) (o : Option Entry) → is_class_of es t o ≡ true → is_class o ≡ true
is_class_class es t (Some (entry.Class n)) h = refl
is_class_class es t _ h = absurd cc

is_pair_pair : (es : List Entry) (t u : List ℕ) (o : Option Entry) → is_pair_of es t u o ≡ true → is_name_type o ≡ true
is_pair_pair es t u (Some (entry.NameType n d)) h = refl
is_pair_pair es t u _ h = absurd cc

-- what shows something refers to entries of the right kinds
pub refers_shown : (es : List Entry) (w : Shown) (x : Entry) → shows es w x ≡ true → refers es x ≡ true
refers_shown es (shown.Text t) (entry.Utf8 u) h = refl
refers_shown es (shown.Integer n) (entry.Integer m) h = refl
refers_shown es (shown.Long n) (entry.Long m) h = refl
refers_shown es (shown.Class t) (entry.Class n) h = is_text_utf8 t (entry_at es n) h
refers_shown es (shown.Str t) (entry.Str n) h = is_text_utf8 t (entry_at es n) h
refers_shown es (shown.NameType t u) (entry.NameType n d) h = let g = both _ _ h in and_true _ _ (is_text_utf8 t (entry_at es n) g.0) (is_text_utf8 u (entry_at es d) g.1)
refers_shown es (shown.Field c t u) (entry.Field n d) h = let g = both _ _ h in and_true _ _ (is_class_class es c (entry_at es n) g.0) (is_pair_pair es t u (entry_at es d) g.1)
refers_shown es (shown.Method c t u) (entry.Method n d) h = let g = both _ _ h in and_true _ _ (is_class_class es c (entry_at es n) g.0) (is_pair_pair es t u (entry_at es d) g.1)
refers_shown es _ _ h = absurd cc

-- ---- what an entry shows stays the same

class_same_by : (t : List ℕ) (es more : List Entry) (o : Option Entry) → ((x : Entry) → o ≡ Some x → refers es x ≡ true) → is_class_of (es ++ more) t o ≡ is_class_of es t o
class_same_by t es more (Some (entry.Class n)) h = ap (is_text t) (at_front es more n (kind_in is_utf8 es n refl (h (entry.Class n) refl)))
class_same_by t es more _ h = refl

class_same : (t : List ℕ) (es more : List Entry) (n : ℕ) → ReferRight es es → n ≤ length es → is_class_of (es ++ more) t (entry_at (es ++ more) n) ≡ is_class_of es t (entry_at es n)
class_same t es more n b le = ap (is_class_of (es ++ more) t) (at_front es more n le) ∙ class_same_by t es more (entry_at es n) (λ x e. every_at es n x b e)

two_same : (a b c d : Bool) → a ≡ c → b ≡ d → (a && b) ≡ (c && d)
two_same a b c d e f = rw (e, f) refl

pair_same_by : (t u : List ℕ) (es more : List Entry) (o : Option Entry) → ((x : Entry) → o ≡ Some x → refers es x ≡ true) → is_pair_of (es ++ more) t u o ≡ is_pair_of es t u o
pair_same_by t u es more (Some (entry.NameType n d)) h =
    let k = both _ _ (h (entry.NameType n d) refl) in
    two_same _ _ _ _ (ap (is_text t) (at_front es more n (kind_in is_utf8 es n refl k.0))) (ap (is_text u) (at_front es more d (kind_in is_utf8 es d refl k.1)))
pair_same_by t u es more _ h = refl

pair_same : (t u : List ℕ) (es more : List Entry) (n : ℕ) → ReferRight es es → n ≤ length es → is_pair_of (es ++ more) t u (entry_at (es ++ more) n) ≡ is_pair_of es t u (entry_at es n)
pair_same t u es more n b le = ap (is_pair_of (es ++ more) t u) (at_front es more n le) ∙ pair_same_by t u es more (entry_at es n) (λ x e. every_at es n x b e)

member_same : (c t u : List ℕ) (es more : List Entry) (n d : ℕ) → ReferRight es es → (is_class (entry_at es n) && is_name_type (entry_at es d)) ≡ true →
    (is_class_of (es ++ more) c (entry_at (es ++ more) n) && is_pair_of (es ++ more) t u (entry_at (es ++ more) d)) ≡ (is_class_of es c (entry_at es n) && is_pair_of es t u (entry_at es d))
member_same c t u es more n d b h =
    let k = both _ _ h in
    two_same _ _ _ _ (class_same c es more n b (kind_in is_class es n refl k.0)) (pair_same t u es more d b (kind_in is_name_type es d refl k.1))

same_shows : (es more : List Entry) (w : Shown) (x : Entry) → ReferRight es es → refers es x ≡ true → shows (es ++ more) w x ≡ shows es w x
same_shows es more (shown.Class t) (entry.Class n) b h = ap (is_text t) (at_front es more n (kind_in is_utf8 es n refl h))
same_shows es more (shown.Str t) (entry.Str n) b h = ap (is_text t) (at_front es more n (kind_in is_utf8 es n refl h))
same_shows es more (shown.NameType t u) (entry.NameType n d) b h =
    let k = both _ _ h in
    two_same _ _ _ _ (ap (is_text t) (at_front es more n (kind_in is_utf8 es n refl k.0))) (ap (is_text u) (at_front es more d (kind_in is_utf8 es d refl k.1)))
same_shows es more (shown.Field c t u) (entry.Field n d) b h = member_same c t u es more n d b h
same_shows es more (shown.Method c t u) (entry.Method n d) b h = member_same c t u es more n d b h
same_shows es more _ _ b h = refl

still_fail : (es more : List Entry) (w : Shown) (xs : List Entry) → ReferRight es es → ReferRight es xs → AllFail (shows es w) xs → AllFail (shows (es ++ more) w) xs
still_fail es more w [] b h k = tt
still_fail es more w (x ∷ xs) b h k = (same_shows es more w x b h.0 ∙ k.0, still_fail es more w xs b h.1 k.1)

-- ---- the rank of what is shown

abbrev pub rank_of : Shown → ℕ
rank_of (shown.Class t) = 1
rank_of (shown.Str t) = 1
rank_of (shown.NameType a b) = 1
rank_of (shown.Field c a b) = 2
rank_of (shown.Method c a b) = 2
rank_of _ = 0

abbrev no_show : List Entry → Shown → Entry → Type 0
no_show pool w x = rank x < rank_of w → shows pool w x ≡ false

low_by : (pool : List Entry) (w : Shown) (x : Entry) → no_show pool w x
low_by pool (shown.Text t) x lt = absurd (omega (arith, lt))
low_by pool (shown.Integer n) x lt = absurd (omega (arith, lt))
low_by pool (shown.Long n) x lt = absurd (omega (arith, lt))
low_by pool (shown.Class t) (entry.Class n) lt = absurd (omega (arith, lt))
low_by pool (shown.Class t) _ lt = refl
low_by pool (shown.Str t) (entry.Str n) lt = absurd (omega (arith, lt))
low_by pool (shown.Str t) _ lt = refl
low_by pool (shown.NameType a b) (entry.NameType n d) lt = absurd (omega (arith, lt))
low_by pool (shown.NameType a b) _ lt = refl
low_by pool (shown.Field c a b) (entry.Field n d) lt = absurd (omega (arith, lt))
low_by pool (shown.Field c a b) _ lt = refl
low_by pool (shown.Method c a b) (entry.Method n d) lt = absurd (omega (arith, lt))
low_by pool (shown.Method c a b) _ lt = refl

low_fail : (pool : List Entry) (w : Shown) (xs : List Entry) → AreBelow (rank_of w) xs → AllFail (shows pool w) xs
low_fail pool w [] h = tt
low_fail pool w (x ∷ xs) h = (low_by pool w x h.0, low_fail pool w xs h.1)

-- What was absent still is, where only what is simpler was entered.
pub still_absent : (w : Shown) (es more : List Entry) → ReferRight es es → AreBelow (rank_of w) more → least w es ≡ None → least w (es ++ more) ≡ None
still_absent w es more b low e =
    fails_none (shows (es ++ more) w) 1 (es ++ more)
    (fails_append (shows (es ++ more) w) es more (still_fail es more w es b b (none_fails (shows es w) 1 es e)) (low_fail (es ++ more) w more low))
