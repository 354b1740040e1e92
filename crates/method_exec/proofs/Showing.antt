-- Borrowed names, as the names that they are.
use Rattle.std.proofs.Common.{◌≡◌, ℕ, zero, suc, List, [], ◌∷◌, ◌++◌, length, take, get_or, Bor, refl, ap, ◌<◌, arith}
use Rattle.startup_rules.specs.declared.slot.Slot.{Slot}
use Rattle.method_exec.specs.Shown.{shown}

pub length_shown : (es : List (Bor (List ℕ) × Slot)) → length (shown es) ≡ length es
length_shown [] = refl
length_shown (e ∷ es) = ap suc (length_shown es)

pub shown_more : (es : List (Bor (List ℕ) × Slot)) (e : Bor (List ℕ) × Slot) → shown (es ++ e ∷ []) ≡ shown es ++ (e.0.now, e.1) ∷ []
shown_more [] e = refl
shown_more (x ∷ es) e = ap (λ l. (x.0.now, x.1) ∷ l) (shown_more es e)

pub shown_take : (n : ℕ) (es : List (Bor (List ℕ) × Slot)) → shown (take n es) ≡ take n (shown es)
shown_take zero es = refl
shown_take (suc n) [] = refl
shown_take (suc n) (x ∷ es) = ap (λ l. (x.0.now, x.1) ∷ l) (shown_take n es)

pub shown_at : (es : List (Bor (List ℕ) × Slot)) (n : ℕ) (e : Bor (List ℕ) × Slot) → n < length es → e ≡ get_or es n e → (e.0.now, e.1) ≡ get_or (shown es) n (e.0.now, e.1)
shown_at [] n e h is = absurd (omega arith)
shown_at (x ∷ es) zero e h is = ap (λ (y : Bor (List ℕ) × Slot). (y.0.now, y.1)) is
shown_at (x ∷ es) (suc n) e h is = shown_at es n e (omega arith) is
