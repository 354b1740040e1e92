-- What callers' proofs cite: visits of objects, and what was counted.
use Rattle.std.proofs.Common.{◌≡◌, ℕ, zero, suc, ◌+◌, ◌<◌, ◌≤◌, ◌≢◌, cond, eq-eqb, ne_eqb, List, [], ◌∷◌, ◌++◌, length, get_or, drop, sym, refl, ap, subst, ◌∙◌, arith}
use Rattle.startup_rules.specs.declared.slot.Slot.{Slot}
use Rattle.startup_rules.specs.Visits.{one_at, times, refs, Visits, done, old, new}

pub times-append : (x : ℕ) (l m : List ℕ) → times x (l ++ m) ≡ times x l + times x m
times-append x [] m = omega arith
times-append x (y ∷ ys) m = omega (arith, times-append x ys m)

pub one-same : (x : ℕ) → one_at x x ≡ 1
one-same x = ap (λ b. cond b 1 0) (eq-eqb x x refl)

pub one-other : (x y : ℕ) → y ≢ x → one_at x y ≡ 0
one-other x y n = ap (λ b. cond b 1 0) (ne_eqb y x n)

no_cons : (x : ℕ) (l : List ℕ) → [] ≡ x ∷ l → ⊥
no_cons x l e = absurd (omega (arith, ap length e))

module _ (objects : List (List Slot)) where
  -- what visits two lists in turn visits the one and then the other
  pub cut : (seen todo after : List ℕ) → Visits objects seen todo after → (xs ys : List ℕ) → todo ≡ xs ++ ys → (mid : List ℕ) × Visits objects seen xs mid × Visits objects mid ys after
  cut seen todo after (done _ _ _ none_left same) [] ys e = (seen, done seen [] seen refl refl, subst (λ l. Visits objects seen l after) e (done seen todo after none_left same))
  cut seen todo after (old _ _ _ x zs is has rest) [] ys e = (seen, done seen [] seen refl refl, subst (λ l. Visits objects seen l after) e (old seen todo after x zs is has rest))
  cut seen todo after (new _ _ _ x zs mid is fresh inner rest) [] ys e = (seen, done seen [] seen refl refl, subst (λ l. Visits objects seen l after) e (new seen todo after x zs mid is fresh inner rest))
  cut seen todo after (done _ _ _ none_left same) (y ∷ xs) ys e = absurd (no_cons y (xs ++ ys) (sym none_left ∙ e))
  cut seen todo after (old _ _ _ x zs is has rest) (y ∷ xs) ys e =
      let both : x ∷ zs ≡ y ∷ (xs ++ ys) = sym is ∙ e in let same : x ≡ y = ap (λ (l : List ℕ). get_or l 0 0) both in
      let r = cut seen zs after rest xs ys (ap (drop 1) both) in
      (r.0, old seen (y ∷ xs) r.0 x xs (ap (λ (z : ℕ). z ∷ xs) (sym same)) has r.1, r.2)
  cut seen todo after (new _ _ _ x zs mid is fresh inner rest) (y ∷ xs) ys e =
      let both : x ∷ zs ≡ y ∷ (xs ++ ys) = sym is ∙ e in let same : x ≡ y = ap (λ (l : List ℕ). get_or l 0 0) both in
      let r = cut mid zs after rest xs ys (ap (drop 1) both) in
      (r.0, new seen (y ∷ xs) r.0 x xs mid (ap (λ (z : ℕ). z ∷ xs) (sym same)) fresh inner r.1, r.2)

  -- the answer is one only
  pub one_answer : (seen todo a : List ℕ) → Visits objects seen todo a → (b : List ℕ) → Visits objects seen todo b → a ≡ b
  one_answer seen todo a (done _ _ _ none_left same) b (done _ _ _ none_left' same') = same ∙ sym same'
  one_answer seen todo a (done _ _ _ none_left same) b (old _ _ _ x xs is has rest) = absurd (no_cons x xs (sym none_left ∙ is))
  one_answer seen todo a (done _ _ _ none_left same) b (new _ _ _ x xs mid is fresh inner rest) = absurd (no_cons x xs (sym none_left ∙ is))
  one_answer seen todo a (old _ _ _ y ys is' has' rest') b (done _ _ _ none_left same) = absurd (no_cons y ys (sym none_left ∙ is'))
  one_answer seen todo a (old _ _ _ y ys is' has' rest') b (old _ _ _ x xs is has rest) =
      one_answer seen ys a rest' b (subst (λ l. Visits objects seen l b) (ap (drop 1) (sym is ∙ is')) rest)
  one_answer seen todo a (old _ _ _ y ys is' has' rest') b (new _ _ _ x xs mid is fresh inner rest) = absurd (omega (arith, has', fresh, ap (λ (l : List ℕ). times (get_or l 0 0) seen) (sym is ∙ is')))
  one_answer seen todo a (new _ _ _ y ys mid' is' fresh' inner' rest') b (done _ _ _ none_left same) = absurd (no_cons y ys (sym none_left ∙ is'))
  one_answer seen todo a (new _ _ _ y ys mid' is' fresh' inner' rest') b (old _ _ _ x xs is has rest) = absurd (omega (arith, has, fresh', ap (λ (l : List ℕ). times (get_or l 0 0) seen) (sym is ∙ is')))
  one_answer seen todo a (new _ _ _ y ys mid' is' fresh' inner' rest') b (new _ _ _ x xs mid is fresh inner rest) =
      let heads : x ≡ y = ap (λ (l : List ℕ). get_or l 0 0) (sym is ∙ is') in
      let mids : mid' ≡ mid = one_answer (seen ++ y ∷ []) (refs objects y) mid' inner' mid (subst (λ (z : ℕ). Visits objects (seen ++ z ∷ []) (refs objects z) mid) heads inner) in
      one_answer mid' ys a rest' b (subst (λ l. Visits objects mid' l b) (ap (drop 1) (sym is ∙ is')) (subst (λ m. Visits objects m xs b) (sym mids) rest))
