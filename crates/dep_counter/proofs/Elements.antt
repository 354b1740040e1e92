-- Elements of lists of numbers in strict order.
use Rattle.std.proofs.Common.{◌≡◌, ◌≢◌, ℕ, zero, suc, ◌+◌, ◌<◌, ◌≤◌, List, [], ◌∷◌, Bool, true, false, not, ◌==◌, cond, length, get_or, take, Contains, filter, refl, sym, ap, ◌∙◌, subst, arith, ◌⊎◌, inl, inr}
use Rattle.dep_counter.proofs.CallerLemmas.{in_head, in_tail, in_none, in_cases}
use Rattle.std.specs.List.Sorted.{IsStrictlyIncreasing}
use Rattle.std.proofs.lemmas.Bool.{eqb-true, eqb-false, eq-eqb}
use Rattle.std.proofs.lemmas.List.{get_or_default}
use Rattle.std.proofs.lemmas.List.Kept.{AllPairs-from_increasing}

filtered_at : {X : Type 0} (p : X → Bool) (x : X) (xs : List X) (y : X) (b : Bool) → p x ≡ b
    → (Contains (filter p xs) y → Contains xs y × (p y ≡ true)) → Contains (cond b (x ∷ filter p xs) (filter p xs)) y → Contains (x ∷ xs) y × (p y ≡ true)
filtered_at p x xs y true q rec c = elim (in_cases x (filter p xs) y c) [
  | inl e ↦ (subst (Contains (x ∷ xs)) e (in_head x xs), subst (λ z. p z ≡ true) e q)
  | inr t ↦ let r = rec t in (in_tail x xs y r.0, r.1)
]
filtered_at p x xs y false q rec c = let r = rec c in (in_tail x xs y r.0, r.1)

pub filtered : {X : Type 0} (p : X → Bool) (xs : List X) (y : X) → Contains (filter p xs) y → Contains xs y × (p y ≡ true)
filtered p [] y c = absurd (in_none y c)
filtered p (x ∷ xs) y c = filtered_at p x xs y (p x) refl (filtered p xs y) c

passes_at : {X : Type 0} (p : X → Bool) (x : X) (xs : List X) (y : X) (b : Bool) → p x ≡ b → p y ≡ true
    → (Contains xs y → Contains (filter p xs) y) → (x ≡ y) ⊎ Contains xs y → Contains (cond b (x ∷ filter p xs) (filter p xs)) y
passes_at p x xs y true q t rec (inl e) = subst (Contains (x ∷ filter p xs)) e (in_head x (filter p xs))
passes_at p x xs y true q t rec (inr c) = in_tail x (filter p xs) y (rec c)
passes_at p x xs y false q t rec (inl e) = absurd (let z : true ≡ false = sym t ∙ ap p (sym e) ∙ q in cc)
passes_at p x xs y false q t rec (inr c) = rec c

pub passes : {X : Type 0} (p : X → Bool) (xs : List X) (y : X) → p y ≡ true → Contains xs y → Contains (filter p xs) y
passes p [] y t c = absurd (in_none y c)
passes p (x ∷ xs) y t c = passes_at p x xs y (p x) refl t (passes p xs y t) (in_cases x xs y c)

pub filter_all : {X : Type 0} (p : X → Bool) (xs : List X) → ((y : X) → Contains xs y → p y ≡ true) → filter p xs ≡ xs
filter_all p [] all = refl
filter_all p (x ∷ xs) all = rw (all x (in_head x xs), filter_all p xs (λ y c. all y (in_tail x xs y c))) refl

pub rising_tail : (x : ℕ) (xs : List ℕ) → IsStrictlyIncreasing (x ∷ xs) → IsStrictlyIncreasing xs
rising_tail x xs up k lt = AllPairs-from_increasing (x ∷ xs) up (suc k) (suc (k + 1)) 0 (omega arith) (omega (arith, lt))

pub head_below : (x : ℕ) (xs : List ℕ) → IsStrictlyIncreasing (x ∷ xs) → (y : ℕ) → Contains xs y → x < y
head_below x xs up y c =
    let lt : c.0 < length xs = c.1 in
    let pair : x < get_or xs c.0 y = AllPairs-from_increasing (x ∷ xs) up 0 (suc c.0) y (omega arith) (omega arith) in
    subst (λ n. x < n) c.2 pair

-- a test that all but x pass
abbrev pub is_other : ℕ → ℕ → Bool
is_other x y = not (y == x)

pub other : (x y : ℕ) → y ≢ x → is_other x y ≡ true
other x y ne = other_at (y == x) refl ne where
  other_at : (b : Bool) → (y == x) ≡ b → y ≢ x → not b ≡ true
  other_at true q ne = absurd (ne (eqb-true y x q))
  other_at false q ne = refl

pub other_ne : (x y : ℕ) → is_other x y ≡ true → y ≢ x
other_ne x y t e = let q : (y == x) ≡ true = eq-eqb y x e in absurd (let z : true ≡ not true = sym t ∙ ap not q in cc)

short_at : (x z : ℕ) (zs : List ℕ) (b : Bool) → (z == x) ≡ b → IsStrictlyIncreasing (z ∷ zs) → (Contains zs x → length (filter (is_other x) zs) + 1 ≡ length zs)
    → (z ≡ x) ⊎ Contains zs x → length (cond (not b) (z ∷ filter (is_other x) zs) (filter (is_other x) zs)) + 1 ≡ length (z ∷ zs)
short_at x z zs true q up rec w =
    let e : z ≡ x = eqb-true z x q in
    let all : filter (is_other x) zs ≡ zs = filter_all (is_other x) zs (λ y c. let lt : z < y = head_below z zs up y c in other x y (λ s. omega (arith, lt, e, s))) in
    rw all (omega arith)
short_at x z zs false q up rec (inl e) = absurd (eqb-false z x q e)
short_at x z zs false q up rec (inr c) = let r : length (filter (is_other x) zs) + 1 ≡ length zs = rec c in omega (arith, r)

-- without one of its elements a list in strict order is one shorter
pub shorter : (x : ℕ) (xs : List ℕ) → IsStrictlyIncreasing xs → Contains xs x → length (filter (is_other x) xs) + 1 ≡ length xs
shorter x [] up c = absurd (in_none x c)
shorter x (z ∷ zs) up c = short_at x z zs (z == x) refl up (shorter x zs (rising_tail z zs up)) (in_cases z zs x c)

-- the elements before a place are below the one at it
pub below_at : (xs : List ℕ) (i : ℕ) → IsStrictlyIncreasing xs → i < length xs → (y : ℕ) → Contains (take i xs) y → y < get_or xs i 0
below_at [] i up lt y c = absurd (omega arith)
below_at (x ∷ xs) zero up lt y c = absurd (in_none y c)
below_at (x ∷ xs) (suc i) up lt y c =
    let inside : i < length xs = omega arith in
    elim (in_cases x (take i xs) y c) [
      | inl e ↦ let above : x < get_or xs i 0 = head_below x xs up (get_or xs i 0) (i, inside, get_or_default xs i (get_or xs i 0) 0 inside) in subst (λ n. n < get_or xs i 0) e above
      | inr t ↦ below_at xs i (rising_tail x xs up) inside y t
    ]

head_least : (x : ℕ) (xs : List ℕ) → IsStrictlyIncreasing (x ∷ xs) → (y : ℕ) → Contains (x ∷ xs) y → x ≤ y
head_least x xs up y c = elim (in_cases x xs y c) [
  | inl e ↦ omega (arith, e)
  | inr t ↦ let lt : x < y = head_below x xs up y t in omega (arith, lt)
]

tail_in : (x y : ℕ) (xs ys : List ℕ) → IsStrictlyIncreasing (x ∷ xs) → x ≡ y → ((s : ℕ) → Contains (x ∷ xs) s → Contains (y ∷ ys) s) → (s : ℕ) → Contains xs s → Contains ys s
tail_in x y xs ys up e all s c = elim (in_cases y ys s (all s (in_tail x xs s c))) [
  | inl q ↦ let lt : x < s = head_below x xs up s c in absurd (omega (arith, lt, e, q))
  | inr t ↦ t
]

-- lists in strict order with the same elements are equal
pub same_rising : (xs ys : List ℕ) → IsStrictlyIncreasing xs → IsStrictlyIncreasing ys → ((s : ℕ) → Contains xs s → Contains ys s) → ((s : ℕ) → Contains ys s → Contains xs s) → xs ≡ ys
same_rising [] [] a b f g = refl
same_rising [] (y ∷ ys) a b f g = absurd (in_none y (g y (in_head y ys)))
same_rising (x ∷ xs) [] a b f g = absurd (in_none x (f x (in_head x xs)))
same_rising (x ∷ xs) (y ∷ ys) a b f g =
    let le : y ≤ x = head_least y ys b x (f x (in_head x xs)) in
    let ge : x ≤ y = head_least x xs a y (g y (in_head y ys)) in
    let e : x ≡ y = omega (arith, le, ge) in
    let rest : xs ≡ ys = same_rising xs ys (rising_tail x xs a) (rising_tail y ys b) (tail_in x y xs ys a e f) (tail_in y x ys xs b (sym e) g) in
    ap (λ z. z ∷ xs) e ∙ ap (λ z. y ∷ z) rest
