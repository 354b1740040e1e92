-- Counting in lists of numbers, and the producers of edges.
use Rattle.std.proofs.Common.{◌≡◌, ℕ, zero, suc, ◌+◌, ◌<◌, ◌≤◌, ◌≢◌, Bool, cond, List, [], ◌∷◌, ◌++◌, length, get_or, Contains, sym, refl, ap, subst, ◌∙◌, ⊎_elim, arith, eq-eqb, ne_eqb}
use Rattle.std.proofs.lemmas.List.{append_assoc, append-nil, length-append}
use mathlib.Core.Logic.{dite}
use native.Mathlib.Decide.{ℕ_discrete, dec_le}
use Rattle.std.specs.List.Sorted.{IsStrictlyIncreasing}
use Rattle.std.proofs.lemmas.List.Kept.{AllPairs-from_increasing}
use Rattle.dep_board.specs.Counts.{total, one_at, times, last_of, IsPart}
use Rattle.dep_board.specs.Edges.{producer_of, producers}
use Rattle.dep_board.specs.Rule.{downs_in, down_in}
use Rattle.dep_board.specs.declared.view.SeatView.{SeatView}

pub times-append : (x : ℕ) (l m : List ℕ) → times x (l ++ m) ≡ times x l + times x m
times-append x [] m = omega arith
times-append x (y ∷ ys) m = omega (arith, times-append x ys m)

pub one-same : (x : ℕ) → one_at x x ≡ 1
one-same x = ap (λ b. cond b 1 0) (eq-eqb x x refl)

pub one-other : (x y : ℕ) → y ≢ x → one_at x y ≡ 0
one-other x y n = ap (λ b. cond b 1 0) (ne_eqb y x n)

pub times-snoc_same : (x : ℕ) (l : List ℕ) → times x (l ++ x ∷ []) ≡ times x l + 1
times-snoc_same x l = omega (arith, times-append x l (x ∷ []), one-same x)

pub times-snoc_other : (x y : ℕ) (l : List ℕ) → y ≢ x → times x (l ++ y ∷ []) ≡ times x l
times-snoc_other x y l n = omega (arith, times-append x l (y ∷ []), one-other x y n)

pub times_le-snoc : (x y : ℕ) (l : List ℕ) → times x l ≤ times x (l ++ y ∷ [])
times_le-snoc x y l = omega (arith, times-append x l (y ∷ []))

pub producers-append : (t : ℕ) (l m : List (ℕ × ℕ)) → producers t (l ++ m) ≡ producers t l ++ producers t m
producers-append t [] m = refl
producers-append t (e ∷ es) m = ap (λ (r : List ℕ). producer_of t e ++ r) (producers-append t es m) ∙ sym (append_assoc (producer_of t e) (producers t es) (producers t m))

pub producers-snoc_same : (t p : ℕ) (l : List (ℕ × ℕ)) → producers t (l ++ (p, t) ∷ []) ≡ producers t l ++ p ∷ []
producers-snoc_same t p l = producers-append t l ((p, t) ∷ []) ∙ ap (λ (b : Bool). producers t l ++ (cond b (p ∷ []) [] ++ [])) (eq-eqb t t refl)

pub producers-snoc_other : (t s p : ℕ) (l : List (ℕ × ℕ)) → s ≢ t → producers t (l ++ (p, s) ∷ []) ≡ producers t l
producers-snoc_other t s p l n = producers-append t l ((p, s) ∷ []) ∙ (ap (λ (b : Bool). producers t l ++ (cond b (p ∷ []) [] ++ [])) (ne_eqb s t n) ∙ append-nil (producers t l))

pub last-snoc : (l : List ℕ) (p : ℕ) → last_of (l ++ p ∷ []) ≡ p
last-snoc [] p = refl
last-snoc (x ∷ []) p = refl
last-snoc (x ∷ y ∷ ys) p = last-snoc (y ∷ ys) p

-- a number that stands in a list cuts it
pub cut_at : (x : ℕ) (l : List ℕ) → 0 < times x l → (a : List ℕ) × (b : List ℕ) × (l ≡ a ++ x ∷ b)
cut_at x [] h = absurd (omega arith)
cut_at x (y ∷ ys) h = dite (ℕ_discrete y x) (λ e. ([], ys, ap (λ (z : ℕ). z ∷ ys) e))
    (λ n. let r = cut_at x ys (omega (arith, one-other x y n)) in (y ∷ r.0, r.1, ap (λ (l : List ℕ). y ∷ l) r.2))

-- a list that has each number at most as often is at most as long
pub length_le : (xs ys : List ℕ) → ((p : ℕ) → times p xs ≤ times p ys) → length xs ≤ length ys
length_le [] ys h = omega arith
length_le (x ∷ xs) ys h =
    let c = cut_at x ys (omega (arith, h x, one-same x)) in
    let less : (p : ℕ) → times p xs ≤ times p (c.0 ++ c.1) = λ p. omega (arith, h p, ap (times p) c.2, times-append p c.0 (x ∷ c.1), times-append p c.0 c.1) in
    omega (arith, length_le xs (c.0 ++ c.1) less, ap length c.2, length-append c.0 (x ∷ c.1), length-append c.0 c.1)

-- and where it is as long, it has each number as often
pub times_same : (xs ys : List ℕ) → ((p : ℕ) → times p xs ≤ times p ys) → length xs ≡ length ys → (p : ℕ) → times p ys ≤ times p xs
times_same [] [] h e p = omega arith
times_same [] (y ∷ ys) h e p = absurd (omega (arith, e))
times_same (x ∷ xs) ys h e p =
    let c = cut_at x ys (omega (arith, h x, one-same x)) in
    let less : (q : ℕ) → times q xs ≤ times q (c.0 ++ c.1) = λ q. omega (arith, h q, ap (times q) c.2, times-append q c.0 (x ∷ c.1), times-append q c.0 c.1) in
    let rest = times_same xs (c.0 ++ c.1) less (omega (arith, e, ap length c.2, length-append c.0 (x ∷ c.1), length-append c.0 c.1)) p in
    omega (arith, rest, ap (times p) c.2, times-append p c.0 (x ∷ c.1), times-append p c.0 c.1)

pub times-head : (x : ℕ) (l : List ℕ) → 0 < times x l → 0 < length l
times-head x [] h = absurd (omega arith)
times-head x (y ∷ ys) h = omega arith

-- a list that is not empty has some number
pub some_in : (l : List ℕ) → 0 < length l → (p : ℕ) × (0 < times p l)
some_in [] h = absurd (omega arith)
some_in (x ∷ xs) h = (x, omega (arith, one-same x))

-- what all views have counted down of the edges into t
abbrev pub pool : ℕ → List SeatView → List ℕ
pool t [] = []
pool t (v ∷ vs) = producers t v.downs ++ pool t vs

pub pool-length : (t : ℕ) (vs : List SeatView) → length (pool t vs) ≡ total (downs_in t) vs
pool-length t [] = refl
pool-length t (v ∷ vs) = omega (arith, length-append (producers t v.downs) (pool t vs), pool-length t vs)

pub pool-times : (p t : ℕ) (vs : List SeatView) → times p (pool t vs) ≡ total (down_in p t) vs
pool-times p t [] = refl
pool-times p t (v ∷ vs) = omega (arith, times-append p (producers t v.downs) (pool t vs), pool-times p t vs)

pub part_times : (xs ys : List ℕ) → IsPart xs ys → (z : ℕ) → times z xs ≤ times z ys
part_times xs [] p z = omega (arith, ap (times z) p)
part_times xs (y ∷ ys) p z = ⊎_elim (λ q. omega (arith, part_times xs ys q z)) (λ q. omega (arith, ap (times z) q.1, part_times q.0 ys q.2 z)) p

rising_tail : (x : ℕ) (xs : List ℕ) → IsStrictlyIncreasing (x ∷ xs) → IsStrictlyIncreasing xs
rising_tail x xs up k lt = AllPairs-from_increasing (x ∷ xs) up (suc k) (suc (k + 1)) 0 (omega arith) (omega (arith, lt))

-- the first of a list in strict order is below all that follow
pub rising_head : (x : ℕ) (xs : List ℕ) → IsStrictlyIncreasing (x ∷ xs) → (y : ℕ) → 0 < times y xs → x < y
rising_head x [] up y h = absurd (omega arith)
rising_head x (z ∷ zs) up y h =
    let first : x < z = up 0 (omega arith) in
    dite (ℕ_discrete z y) (λ e. omega (arith, first, e)) (λ n. let later : z < y = rising_head z zs (rising_tail x (z ∷ zs) up) y (omega (arith, h, one-other y z n)) in omega (arith, first, later))

rising_cons : (x : ℕ) (xs : List ℕ) → ((y : ℕ) → 0 < times y xs → x < y) → IsStrictlyIncreasing xs → IsStrictlyIncreasing (x ∷ xs)
rising_cons x [] below up k lt = absurd (omega (arith, lt))
rising_cons x (z ∷ zs) below up zero lt = below z (omega (arith, one-same z))
rising_cons x (z ∷ zs) below up (suc k) lt = let e : suc k + 1 ≡ suc (k + 1) = omega arith in
    subst (λ n. get_or (z ∷ zs) k 0 < get_or (x ∷ z ∷ zs) n 0) (sym e) (up k (omega (arith, lt)))

-- a list in strict order has each number once
pub rising_once : (xs : List ℕ) → IsStrictlyIncreasing xs → (x : ℕ) → times x xs ≤ 1
rising_once [] up x = omega arith
rising_once (y ∷ ys) up x = dite (ℕ_discrete y x)
    (λ e. dite (dec_le 1 (times x ys)) (λ h. absurd (omega (arith, rising_head y ys up x h, e))) (λ h. omega (arith, h, ap (one_at x) e, one-same x)))
    (λ n. omega (arith, one-other x y n, rising_once ys (rising_tail y ys up) x))

pub part_rises : (xs ys : List ℕ) → IsPart xs ys → IsStrictlyIncreasing ys → IsStrictlyIncreasing xs
part_rises xs [] p up = subst IsStrictlyIncreasing (sym p) (λ k lt. absurd (omega (arith, lt)))
part_rises xs (y ∷ ys) p up = ⊎_elim (λ q. part_rises xs ys q (rising_tail y ys up))
    (λ q. subst IsStrictlyIncreasing (sym q.1) (rising_cons y q.0 (λ z h. rising_head y ys up z (omega (arith, h, part_times q.0 ys q.2 z))) (part_rises q.0 ys q.2 (rising_tail y ys up)))) p

-- a number stands in a list where it stands there at least once
pub some_times : (xs : List ℕ) (x : ℕ) → Contains xs x → 0 < times x xs
some_times xs x c = at_place xs x c.0 c.1 c.2 where
  at_place : (xs : List ℕ) (x k : ℕ) → k < length xs → get_or xs k x ≡ x → 0 < times x xs
  at_place [] x k lt e = absurd (omega (arith, lt))
  at_place (y ∷ ys) x zero lt e = omega (arith, ap (one_at x) e, one-same x)
  at_place (y ∷ ys) x (suc k) lt e = omega (arith, at_place ys x k (omega (arith, lt)) e)

pub times_some : (xs : List ℕ) (x : ℕ) → 0 < times x xs → Contains xs x
times_some [] x h = absurd (omega arith)
times_some (y ∷ ys) x h = dite (ℕ_discrete y x) (λ e. (0, omega arith, e)) (λ n. let r = times_some ys x (omega (arith, h, one-other x y n)) in let lt : r.0 < length ys = r.1 in (suc r.0, omega (arith, lt), r.2))
