-- Places in lists.
use Rattle.std.proofs.Common.{◌≡◌, ℕ, zero, suc, ◌+◌, ◌≤◌, ◌<◌, Bool, true, false, cond, List, [], ◌∷◌, ◌++◌, length, replicate, Option, Some, None, get_or, if◌then◌else◌, refl, sym, ap, subst, ◌∙◌, arith, nat_lt, ltb-true}
use Rattle.std.specs.Prelude.{set, slice_get, unwrap_or}
use Rattle.std.specs.List.{position_or_len}
use Rattle.std.specs.Str.{bytes_eq}
use Rattle.std.proofs.Math.Seq.{set_out}
use Rattle.std.proofs.lemmas.Bool.{ltb-false}
use Rattle.startup_rules.specs.declared.slot.Slot.{Slot}
use Rattle.startup_rules.specs.Worlds.{put}
use Rattle.startup_world.specs.Places.{key_place}

-- what is not there is not set
pub set_past : {A : Type 0} (l : List A) (i : ℕ) (a : A) → length l ≤ i → set l i a ≡ l
set_past l i a h = set_out l i a h

-- a static of no recorder is not set
pub static_past : (l : List (List Slot)) (r p : ℕ) (v : Slot) → length l ≤ r → set l r (set (unwrap_or (slice_get l r) []) p v) ≡ l
static_past l r p v h = set_out l r (set (unwrap_or (slice_get l r) []) p v) h

pub row_there : (l : List (List Slot)) (r : ℕ) (d : List Slot) → r < length l → unwrap_or (slice_get l r) [] ≡ get_or l r d
row_there [] r d h = absurd (omega arith)
row_there (x ∷ l) zero d h = refl
row_there (x ∷ l) (suc r) d h = row_there l r d (omega arith)

replicate_suc : {A : Type 0} (n : ℕ) (a : A) → replicate (suc n) a ≡ replicate n a ++ a ∷ []
replicate_suc zero a = refl
replicate_suc (suc n) a = ap (λ (l : List _). a ∷ l) (replicate_suc n a)

pub replicate_more : {A : Type 0} (n : ℕ) (a : A) → replicate (n + 1) a ≡ replicate n a ++ a ∷ []
replicate_more n a = let one : n + 1 ≡ suc n = omega arith in ap (λ (k : ℕ). replicate k a) one ∙ replicate_suc n a

abbrev is_key : List ℕ → List ℕ × Slot → Bool
is_key key p = bytes_eq p.0 key

put_set : (ps : List (List ℕ × Slot)) (key : List ℕ) (v : Slot) → position_or_len (is_key key) ps < length ps → put ps key v ≡ set ps (position_or_len (is_key key) ps) (key, v)
put_set [] key v h = absurd (omega arith)
put_set (p ∷ ps) key v h = at (bytes_eq p.0 key) refl (put_set ps key v)
  where
    at : (b : Bool) → bytes_eq p.0 key ≡ b → (position_or_len (is_key key) ps < length ps → put ps key v ≡ set ps (position_or_len (is_key key) ps) (key, v)) →
        put (p ∷ ps) key v ≡ set (p ∷ ps) (position_or_len (is_key key) (p ∷ ps)) (key, v)
    at true e rest = let step : position_or_len (is_key key) (p ∷ ps) ≡ 0 = rw e refl in
        ap (λ (b : Bool). if b then (key, v) ∷ ps else p ∷ put ps key v) e ∙ ap (λ (k : ℕ). set (p ∷ ps) k (key, v)) (sym step)
    at false e rest = let step : position_or_len (is_key key) (p ∷ ps) ≡ suc (position_or_len (is_key key) ps) = rw e (omega arith) in
        ap (λ (b : Bool). if b then (key, v) ∷ ps else p ∷ put ps key v) e ∙ (ap (λ (l : List (List ℕ × Slot)). p ∷ l) (rest (omega arith)) ∙ ap (λ (k : ℕ). set (p ∷ ps) k (key, v)) (sym step))

put_push : (ps : List (List ℕ × Slot)) (key : List ℕ) (v : Slot) → length ps ≤ position_or_len (is_key key) ps → put ps key v ≡ ps ++ (key, v) ∷ []
put_push [] key v h = refl
put_push (p ∷ ps) key v h = at (bytes_eq p.0 key) refl (put_push ps key v)
  where
    at : (b : Bool) → bytes_eq p.0 key ≡ b → (length ps ≤ position_or_len (is_key key) ps → put ps key v ≡ ps ++ (key, v) ∷ []) → put (p ∷ ps) key v ≡ (p ∷ ps) ++ (key, v) ∷ []
    at true e rest = let step : position_or_len (is_key key) (p ∷ ps) ≡ 0 = rw e refl in absurd (omega arith)
    at false e rest = let step : position_or_len (is_key key) (p ∷ ps) ≡ 1 + position_or_len (is_key key) ps = rw e refl in
        ap (λ (b : Bool). if b then (key, v) ∷ ps else p ∷ put ps key v) e ∙ ap (λ (l : List (List ℕ × Slot)). p ∷ l) (rest (omega arith))

pub put_there : (ps : List (List ℕ × Slot)) (key : List ℕ) (v : Slot) (k : ℕ) → key_place ps key ≡ Some k → put ps key v ≡ set ps k (key, v)
put_there ps key v k h = at (nat_lt (position_or_len (is_key key) ps) (length ps)) (λ e. ltb-true _ _ e) h
  where
    at : (b : Bool) → (b ≡ true → position_or_len (is_key key) ps < length ps) → cond b (Some (position_or_len (is_key key) ps)) None ≡ Some k → put ps key v ≡ set ps k (key, v)
    at true lt e = let same : position_or_len (is_key key) ps ≡ k = cc in put_set ps key v (lt refl) ∙ ap (λ (i : ℕ). set ps i (key, v)) same
    at false lt e = absurd (cc)

pub put_last : (ps : List (List ℕ × Slot)) (key : List ℕ) (v : Slot) → key_place ps key ≡ None → put ps key v ≡ ps ++ (key, v) ∷ []
put_last ps key v h = at (nat_lt (position_or_len (is_key key) ps) (length ps)) (λ e. ltb-false _ _ e) h
  where
    at : (b : Bool) → (b ≡ false → length ps ≤ position_or_len (is_key key) ps) → cond b (Some (position_or_len (is_key key) ps)) None ≡ None → put ps key v ≡ ps ++ (key, v) ∷ []
    at true le e = absurd (cc)
    at false le e = put_push ps key v (le refl)
