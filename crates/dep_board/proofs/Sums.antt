-- Sums over a list of views that changes at one place.
use Rattle.std.proofs.Common.{◌≡◌, ℕ, zero, suc, ◌+◌, ◌<◌, ◌≤◌, ◌≢◌, List, [], ◌∷◌, ◌++◌, set, sym, refl, ap, arith, inl, inr}
use mathlib.Core.Logic.{dite}
use mathlib.Core.Option.{some, some-injective, some-ne-none}
use native.Mathlib.Decide.{dec_le}
use lib.ListN.{get_elem?}
use Rattle.atomic_table.proofs.Lists.{at_set}
use Rattle.dep_board.specs.Counts.{total}

module _ {A : Type 0} (g : A → ℕ) where
  pub total-append : (l m : List A) → total g (l ++ m) ≡ total g l + total g m
  total-append [] m = omega arith
  total-append (x ∷ xs) m = omega (arith, total-append xs m)

  pub total-snoc : (l : List A) (x : A) → total g (l ++ x ∷ []) ≡ total g l + g x
  total-snoc l x = omega (arith, total-append l (x ∷ []))

  pub total-set : (l : List A) (j : ℕ) (v w : A) → get_elem? l j ≡ some v → total g (set l j w) + g v ≡ total g l + g w
  total-set [] j v w e = absurd (some-ne-none v (sym e))
  total-set (x ∷ xs) zero v w e = omega (arith, ap g (some-injective x v e))
  total-set (x ∷ xs) (suc j) v w e = omega (arith, total-set xs j v w e)

  pub total-same : (l : List A) (j : ℕ) (v w : A) → get_elem? l j ≡ some v → g w ≡ g v → total g (set l j w) ≡ total g l
  total-same l j v w e same = omega (arith, total-set l j v w e, same)

  pub term_le : (l : List A) (j : ℕ) (v : A) → get_elem? l j ≡ some v → g v ≤ total g l
  term_le [] j v e = absurd (some-ne-none v (sym e))
  term_le (x ∷ xs) zero v e = omega (arith, ap g (some-injective x v e))
  term_le (x ∷ xs) (suc j) v e = omega (arith, term_le xs j v e)

  pub terms_le : (l : List A) (j k : ℕ) (v u : A) → k ≢ j → get_elem? l j ≡ some v → get_elem? l k ≡ some u → g v + g u ≤ total g l
  terms_le [] j k v u n e d = absurd (some-ne-none v (sym e))
  terms_le (x ∷ xs) zero zero v u n e d = absurd (n refl)
  terms_le (x ∷ xs) zero (suc k) v u n e d = omega (arith, ap g (some-injective x v e), term_le xs k u d)
  terms_le (x ∷ xs) (suc j) zero v u n e d = omega (arith, ap g (some-injective x u d), term_le xs j v e)
  terms_le (x ∷ xs) (suc j) (suc k) v u n e d = omega (arith, terms_le xs j k v u (λ h. n (ap suc h)) e d)

  -- a sum that is not 0 has a term that is not 0
  pub some_has : (l : List A) → 0 < total g l → (j : ℕ) × (v : A) × (get_elem? l j ≡ some v) × (0 < g v)
  some_has [] h = absurd (omega arith)
  some_has (x ∷ xs) h = dite (dec_le 1 (g x)) (λ here. (0, x, refl, here))
      (λ none. let r = some_has xs (omega (arith, h, none)) in (suc r.0, r.1, r.2, r.3))

  -- terms that are 0 at each place add up to 0
  pub total-none : (l : List A) → ((j : ℕ) (v : A) → get_elem? l j ≡ some v → g v ≡ 0) → total g l ≡ 0
  total-none l none = dite (dec_le 1 (total g l)) (λ h. let r = some_has l h in absurd (omega (arith, r.3, none r.0 r.1 r.2))) (λ h. omega arith)

module _ {A : Type 0} (g mark : A → ℕ) where
  -- where only what is marked weighs anything, and one element has all of the mark, the sum is its weight
  pub alone : (l : List A) (i : ℕ) (v blank : A) → ((j : ℕ) (u : A) → get_elem? l j ≡ some u → 0 < g u → 0 < mark u) → total mark l ≤ mark v → get_elem? l i ≡ some v → g blank ≡ 0 → total g l ≡ g v
  alone l i v blank marked few me zero_blank =
      let others : total g (set l i blank) ≡ 0 = total-none g (set l i blank) (λ j u at. dite (dec_le 1 (g u))
      (λ heavy. elim (at_set l i j blank u at) [
        | inl e ↦ omega (arith, ap g e.1, zero_blank)
        | inr e ↦ let apart = e.0 in absurd (omega (arith, terms_le mark l i j v u apart me e.1, few, marked j u e.1 heavy))
      ]) (λ light. omega (arith, light))) in
      omega (arith, total-set g l i v blank me, others, zero_blank)
