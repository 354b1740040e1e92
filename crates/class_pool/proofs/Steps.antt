-- A list that goes on from one that goes on from another.
use Rattle.std.proofs.Common.{◌≡◌, ℕ, zero, suc, ◌≤◌, List, [], ◌∷◌, Option, None, Result, refl, length, take, sym, ap, subst, ◌∙◌, arith}
use Rattle.std.proofs.lemmas.List.{length-take}
use Rattle.class_pool.specs.declared.entry.Entry.{Entry}
use Rattle.class_pool.specs.declared.pool_err.PoolErr.{PoolErr}
use Rattle.class_pool.specs.Enter.{Entered, found_or, Steps}

take_take : (n m : ℕ) (xs : List Entry) → n ≤ m → take n (take m xs) ≡ take n xs
take_take zero m xs le = refl
take_take (suc n) zero xs le = absurd (omega (arith, le))
take_take (suc n) (suc m) [] le = refl
take_take (suc n) (suc m) (x ∷ xs) le = ap (λ (w : List Entry). x ∷ w) (take_take n m xs (omega (arith, le)))

-- the beginning is no longer than the whole
pub no_shorter : (a b : List Entry) → take (length a) b ≡ a → length a ≤ length b
no_shorter a b e = let k : length (take (length a) b) ≡ length a = ap length e in omega (arith, k, length-take (length a) b)

pub stays_then : (a b c : List Entry) → take (length a) b ≡ a → take (length b) c ≡ b → take (length a) c ≡ a
stays_then a b c p q = sym (take_take (length a) (length b) c (no_shorter a b p)) ∙ ap (λ (w : List Entry). take (length a) w) q ∙ p

-- what is shown nowhere is entered anew
pub not_found : (o : Option ℕ) (new : Entered) (es fs : List Entry) (r : Result ℕ PoolErr) → o ≡ None → Steps new r fs → Steps (found_or o new es) r fs
not_found o new es fs r e h = subst (λ (p : Option ℕ). Steps (found_or p new es) r fs) (sym e) h
