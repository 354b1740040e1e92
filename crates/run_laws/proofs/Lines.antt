use Rattle.std.proofs.Common.{◌≡◌, ℕ, zero, suc, ◌≤◌, ◌+◌, List, [], ◌∷◌, ◌++◌, arith, Bool, true, false, ◌||◌, ◌&&◌, ◌==◌, cond, refl, sym, ap, ◌∙◌, not}
use Rattle.run_laws.specs.Lines.{first_lines, feeds, before_stop, line_name}
use Rattle.run_laws.specs.Named.{is_plain}

-- over a whole beginning
over_at : (c : ℕ) (x y : List ℕ) (j k : ℕ) (b : Bool) → suc k ≡ (cond b 1 0 + feeds x) + suc j
    → ((k : ℕ) → k ≡ feeds x + suc j → first_lines (x ++ y) k ≡ x ++ first_lines y (suc j))
    → c ∷ first_lines (x ++ y) (cond b k (suc k)) ≡ c ∷ (x ++ first_lines y (suc j))
over_at c x y j k true e rec = ap (λ t. c ∷ t) (rec k (omega arith))
over_at c x y j k false e rec = ap (λ t. c ∷ t) (rec (suc k) (omega arith))

pub first_lines_over : (x y : List ℕ) (j k : ℕ) → k ≡ feeds x + suc j → first_lines (x ++ y) k ≡ x ++ first_lines y (suc j)
first_lines_over [] y j k e = let q : k ≡ suc j = omega arith in rw q refl
first_lines_over (c ∷ x) y j zero e = absurd (omega arith)
first_lines_over (c ∷ x) y j (suc k) e = over_at c x y j k (c == 10) e (first_lines_over x y j)

no_lines : (a : List ℕ) → first_lines a zero ≡ []
no_lines [] = refl
no_lines (c ∷ a) = refl

-- lines that end within a common beginning
same_at : (c : ℕ) (x a b : List ℕ) (j : ℕ) (t : Bool) → suc j ≤ cond t 1 0 + feeds x
    → ((j : ℕ) → j ≤ feeds x → first_lines (x ++ a) j ≡ first_lines (x ++ b) j)
    → c ∷ first_lines (x ++ a) (cond t j (suc j)) ≡ c ∷ first_lines (x ++ b) (cond t j (suc j))
same_at c x a b j true le rec = ap (λ t. c ∷ t) (rec j (omega arith))
same_at c x a b j false le rec = ap (λ t. c ∷ t) (rec (suc j) (omega arith))

pub first_lines_same : (x a b : List ℕ) (j : ℕ) → j ≤ feeds x → first_lines (x ++ a) j ≡ first_lines (x ++ b) j
first_lines_same [] a b zero le = no_lines a ∙ sym (no_lines b)
first_lines_same [] a b (suc j) le = absurd (omega arith)
first_lines_same (c ∷ x) a b zero le = refl
first_lines_same (c ∷ x) a b (suc j) le = same_at c x a b j (c == 10) le (first_lines_same x a b)

pub feeds-append : (x y : List ℕ) → feeds (x ++ y) ≡ feeds x + feeds y
feeds-append [] y = omega arith
feeds-append (c ∷ x) y = let q = feeds-append x y in omega (arith, q)

stop_first_at : (c : ℕ) (cs : List ℕ) (k : ℕ) (p b : Bool) → before_stop (first_lines cs (suc k)) ≡ before_stop cs
    → cond (p || b) [] (c ∷ before_stop (first_lines cs (cond b k (suc k)))) ≡ cond (p || b) [] (c ∷ before_stop cs)
stop_first_at c cs k true b rec = refl
stop_first_at c cs k false true rec = refl
stop_first_at c cs k false false rec = ap (λ t. c ∷ t) rec

before_stop-first : (t : List ℕ) (k : ℕ) → before_stop (first_lines t (suc k)) ≡ before_stop t
before_stop-first [] k = refl
before_stop-first (c ∷ cs) k = stop_first_at c cs k (c == 32) (c == 10) (before_stop-first cs k)

-- two tests of one number that can't both hold
blank_is : (c : ℕ) → (c == 32) ≡ true → (c == 10) ≡ false
blank_is c q = grind (arith, q)

name_first_at : (c : ℕ) (cs : List ℕ) (k : ℕ) (p b : Bool) → (p ≡ true → b ≡ false) → before_stop (first_lines cs (suc k)) ≡ before_stop cs
    → line_name (first_lines cs (suc k)) ≡ line_name cs
    → cond p (before_stop (first_lines cs (cond b k (suc k)))) (cond b [] (line_name (first_lines cs (cond b k (suc k))))) ≡ cond p (before_stop cs) (cond b [] (line_name cs))
name_first_at c cs k true true f rec more = cc (f refl)
name_first_at c cs k true false f rec more = rec
name_first_at c cs k false true f rec more = refl
name_first_at c cs k false false f rec more = more

-- the name in a first line is told by the first lines
pub line_name-first : (t : List ℕ) (k : ℕ) → line_name (first_lines t (suc k)) ≡ line_name t
line_name-first [] k = refl
line_name-first (c ∷ cs) k = name_first_at c cs k (c == 32) (c == 10) (blank_is c) (before_stop-first cs k) (line_name-first cs k)

plain_at : (c : ℕ) (n r : List ℕ) (b : Bool) → (not b && is_plain n) ≡ true → (is_plain n ≡ true → before_stop (n ++ r) ≡ n)
    → cond b [] (c ∷ before_stop (n ++ r)) ≡ c ∷ n
plain_at c n r true q rec = cc q
plain_at c n r false q rec = ap (λ t. c ∷ t) (rec q)

-- a plain name ends where a stop follows
pub before_stop-plain : (n r : List ℕ) → is_plain n ≡ true → before_stop r ≡ [] → before_stop (n ++ r) ≡ n
before_stop-plain [] r p z = z
before_stop-plain (c ∷ n) r p z = plain_at c n r (c == 32 || c == 10) p (λ q. before_stop-plain n r q z)
