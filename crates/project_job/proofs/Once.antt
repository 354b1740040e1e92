-- Texts that stand in a list once.
use Rattle.std.proofs.Common.{◌≡◌, ap, refl, sym, ℕ, zero, suc, ◌+◌, ◌<◌, Bool, true, false, not, cond, List, [], ◌∷◌, ◌++◌, length, map, Option, Some, arith}
use Rattle.std.specs.List.{position_from, slice_index_or}
use Rattle.std.specs.Prelude.{is_some}
use Rattle.std.specs.Str.{bytes_eq}
use Rattle.std.proofs.lemmas.Slice.Eq.{bytes_eq-Decides}
use Rattle.project_fit.specs.Fits.{none_twice}
use Rattle.name_index.specs.Place.{has}
use Rattle.project_fit.proofs.Apart.{and-parts}

-- the text isn't in the list
abbrev pub Lacks : List (List ℕ) → List ℕ → Type 0
Lacks [] t = Unit {0}
Lacks (x ∷ xs) t = (t ≡ x → ⊥) × Lacks xs t

-- no text of the second list is in the first
abbrev pub AllLack : List (List ℕ) → List (List ℕ) → Type 0
AllLack xs [] = Unit {0}
AllLack xs (t ∷ ts) = Lacks xs t × AllLack xs ts

abbrev pub Once : List (List ℕ) → Type 0
Once [] = Unit {0}
Once (x ∷ xs) = Lacks xs x × Once xs

lacks_by : (b : Bool) (t x : List ℕ) (i : ℕ) (rest : Option ℕ) → bytes_eq t x ≡ b → is_some (cond b (Some i) rest) ≡ false → (t ≡ x → ⊥) × (is_some rest ≡ false)
lacks_by true t x i rest test is = absurd (cc)
lacks_by false t x i rest test is = (λ same. let e : bytes_eq t x ≡ true = (bytes_eq-Decides t x).1 same in cc, is)

lacks_from : (t : List ℕ) (i : ℕ) (names : List (List ℕ)) → is_some (position_from (bytes_eq t) i names) ≡ false → Lacks names t
lacks_from t i [] is = tt
lacks_from t i (x ∷ names) is =
    let both = lacks_by (bytes_eq t x) t x i (position_from (bytes_eq t) (i + 1) names) refl is in
    (both.0, lacks_from t (i + 1) names both.1)

not_true : (b : Bool) → not b ≡ true → b ≡ false
not_true true is = absurd (cc)
not_true false is = refl

pub lacks_fresh : (names : List (List ℕ)) (t : List ℕ) → not (has names t) ≡ true → Lacks names t
lacks_fresh names t is = lacks_from t 0 names (not_true (has names t) is)

lacks_push : (names : List (List ℕ)) (x t : List ℕ) → Lacks (names ++ x ∷ []) t → Lacks names t × (t ≡ x → ⊥)
lacks_push [] x t all = (tt, all.0)
lacks_push (y ∷ names) x t all = let rest = lacks_push names x t all.1 in ((all.0, rest.0), rest.1)

pub all_lack_push : (names : List (List ℕ)) (x : List ℕ) (ts : List (List ℕ)) → AllLack (names ++ x ∷ []) ts → AllLack names ts × Lacks ts x
all_lack_push names x [] all = (tt, tt)
all_lack_push names x (t ∷ ts) all =
    let first = lacks_push names x t all.0 in
    let rest = all_lack_push names x ts all.1 in
    ((first.0, rest.0), (λ same. first.1 (sym same), rest.1))

pub apart_once : (before texts : List (List ℕ)) → none_twice before texts ≡ true → Once texts × AllLack before texts
apart_once before [] is = (tt, tt)
apart_once before (t ∷ ts) is =
    let parts = and-parts (not (has before t)) (none_twice (before ++ t ∷ []) ts) is in
    let later = apart_once (before ++ t ∷ []) ts parts.1 in
    let rest = all_lack_push before t ts later.1 in
    ((rest.1, later.0), (lacks_fresh before t parts.0, rest.0))

pub lacks_append : (xs ys : List (List ℕ)) (t : List ℕ) → Lacks xs t → Lacks ys t → Lacks (xs ++ ys) t
lacks_append [] ys t first later = later
lacks_append (x ∷ xs) ys t first later = (first.0, lacks_append xs ys t first.1 later)

pub once_append : (xs ys : List (List ℕ)) → Once xs → Once ys → AllLack ys xs → Once (xs ++ ys)
once_append [] ys first later apart = later
once_append (x ∷ xs) ys first later apart = (lacks_append xs ys x first.0 apart.0, once_append xs ys first.1 later apart.1)

module _ {A : Type 0} (name : A → List ℕ) (d : A) where
  lacks_at : (xs : List A) (k : ℕ) (t : List ℕ) → k < length xs → Lacks (map name xs) t → t ≡ name (slice_index_or xs k d) → ⊥
  lacks_at [] k t within all same = omega (arith, within)
  lacks_at (x ∷ xs) zero t within all same = all.0 same
  lacks_at (x ∷ xs) (suc k) t within all same = lacks_at xs k t (omega (arith, within)) all.1 same

  pub once_at : (xs : List A) (i k : ℕ) → i < length xs → k < length xs → Once (map name xs) → name (slice_index_or xs i d) ≡ name (slice_index_or xs k d) → i ≡ k
  once_at [] i k first second all same = absurd (omega (arith, first))
  once_at (x ∷ xs) zero zero first second all same = refl
  once_at (x ∷ xs) zero (suc k) first second all same = absurd (lacks_at xs k (name x) (omega (arith, second)) all.0 same)
  once_at (x ∷ xs) (suc i) zero first second all same = absurd (lacks_at xs i (name x) (omega (arith, first)) all.0 (sym same))
  once_at (x ∷ xs) (suc i) (suc k) first second all same = ap suc (once_at xs i k (omega (arith, first)) (omega (arith, second)) all.1 same)
