-- A table that is filled from the last number on.
use Rattle.std.proofs.Common.{◌≡◌, ◌≢◌, ℕ, zero, suc, ◌+◌, ◌-◌, ◌<◌, ◌≤◌, Bool, true, false, cond, eqb, eq-eqb, ne_eqb, List, [], ◌∷◌, length, drop, get_or, replicate, refl, sym, ap, subst, ◌∙◌, arith}
use Rattle.std.specs.Prelude.{set}
use Rattle.std.proofs.Math.Seq.{drop-cons}
use Rattle.std.proofs.lemmas.List.{get_or-set_same, get_or-set_other, get_or-replicate, get_or_past, length-replicate}
use mathlib.Core.Logic.{dite}
use native.Mathlib.Decide.{ℕ_discrete, dec_le}
use Rattle.startup_rules.specs.Views.{number_in}

-- the objects from number k on have their numbers in the table
abbrev pub Numbered : List ℕ → List ℕ → ℕ → Type 0
Numbered table order k = (o : ℕ) → get_or table o (length order) ≡ k + number_in (drop k order) o

pub none_numbered : (order table : List ℕ) (objects n k : ℕ) → table ≡ replicate objects n → n ≡ length order → k ≡ length order → drop k order ≡ [] → Numbered table order k
none_numbered order table objects n k is same end empty o =
    let left : k + number_in (drop k order) o ≡ k = rw empty (omega arith) in
    let read : get_or table o (length order) ≡ length order = ap (λ (l : List ℕ). get_or l o (length order)) is ∙ dite (dec_le objects o)
    (λ h. get_or_past (replicate objects n) o (length order) (omega (arith, length-replicate {A = ℕ} objects n)))
    (λ h. get_or-replicate {A = ℕ} objects o n (length order) (omega arith) ∙ same) in
    read ∙ (sym end ∙ sym left)

first_is : (x : ℕ) (xs : List ℕ) → number_in (x ∷ xs) x ≡ 0
first_is x xs = rw (eq-eqb x x refl) refl

other_is : (x : ℕ) (xs : List ℕ) (o : ℕ) → x ≢ o → number_in (x ∷ xs) o ≡ 1 + number_in xs o
other_is x xs o n = rw (ne_eqb x o n) refl

pub one_numbered : (order table : List ℕ) (k : ℕ) (x d : ℕ) → k < length order → x ≡ get_or order k d → x < length table → Numbered table order (suc k) → Numbered (set table x k) order k
one_numbered order table k x d h is within so_far o = dite (ℕ_discrete x o)
    (λ e. subst (λ (y : ℕ). get_or (set table x k) y (length order) ≡ k + number_in (drop k order) y) e
    (get_or-set_same table x k (length order) within ∙ rw (front, first_is) (omega arith)))
    (λ n. get_or-set_other table x o k (length order) (λ e. n (sym e)) ∙ (so_far o ∙ rw (front, other_is x (drop (suc k) order) o n) (omega arith)))
  where
    front : drop k order ≡ x ∷ drop (suc k) order
    front = drop-cons order k d h ∙ ap (λ (y : ℕ). y ∷ drop (suc k) order) (sym is)
