-- Texts that are known and stand there once have numbers that stand there once.
use Rattle.std.proofs.Common.{◌≡◌, inl, inr, ◌+◌, ◌∙◌, ap, sym, refl, subst, arith, ℕ, suc, Bool, true, false, not, cond, ◌==◌, List, [], ◌∷◌, ◌++◌, map, length, Option, Some, None, Err}
use Rattle.std.specs.List.{list_all, list_any, position_from}
use Rattle.std.specs.Prelude.{is_some, unwrap_or, nat_lt}
use Rattle.std.specs.Str.{bytes_eq}
use Rattle.std.proofs.lemmas.Bool.Decides.{eqb_tells, leb_tells}
use Rattle.std.proofs.lemmas.List.{map-append}
use Rattle.std.proofs.lemmas.List.Folds.{list_all-append}
use Rattle.std.proofs.lemmas.Slice.Eq.{bytes_eq-Decides}
use Rattle.ext_draft.specs.Paths.{nth}
use Rattle.project_fit.specs.Fits.{no_number_twice}
use Rattle.name_index.specs.Place.{place, has}
use Rattle.ext_parser.specs.Declarations.{number}
use Rattle.ext_parser.specs.SecondWalk.{Checked, right, fresh, known_at, all_known}
use Rattle.ext_parser.specs.declared.fault.ProjectFault.TheVariants.{Unknown}
use Rattle.name_index.proofs.CallerLemmas.{from-first}
use Rattle.project_fit.proofs.Apart.{and-true, and-parts}
use Rattle.ext_parser.proofs.Apart.{fresh-not}
use Rattle.ext_parser.proofs.Numbers.{both, known-number}

-- two texts with one place are one text
same-by : (a b : Bool) (t u x : List ℕ) (i k : ℕ) (names : List (List ℕ)) → bytes_eq t x ≡ a → bytes_eq u x ≡ b
    → cond a (Some i) (position_from (bytes_eq t) (i + 1) names) ≡ Some k → cond b (Some i) (position_from (bytes_eq u) (i + 1) names) ≡ Some k
    → (position_from (bytes_eq t) (i + 1) names ≡ Some k → position_from (bytes_eq u) (i + 1) names ≡ Some k → t ≡ u) → t ≡ u
same-by true true t u x i k names p q at other later = (bytes_eq-Decides t x).0 p ∙ sym ((bytes_eq-Decides u x).0 q)
same-by true false t u x i k names p q at other later =
    let e : i ≡ k = cc in let below = from-first (bytes_eq u) (i + 1) k names other in absurd (omega (arith, e, below))
same-by false true t u x i k names p q at other later =
    let e : i ≡ k = cc in let below = from-first (bytes_eq t) (i + 1) k names at in absurd (omega (arith, e, below))
same-by false false t u x i k names p q at other later = later at other

same-from : (t u : List ℕ) (i k : ℕ) (names : List (List ℕ)) → position_from (bytes_eq t) i names ≡ Some k → position_from (bytes_eq u) i names ≡ Some k → t ≡ u
same-from t u i k [] at other = cc
same-from t u i k (x ∷ names) at other =
    same-by (bytes_eq t x) (bytes_eq u x) t u x i k names refl refl at other (same-from t u (i + 1) k names)

place-of : (found : Option ℕ) → is_some found ≡ true → found ≡ Some (unwrap_or found 0)
place-of (Some n) is = refl
place-of None is = cc

same-number : (items : List (List ℕ)) (t u : List ℕ) → has items t ≡ true → has items u ≡ true → number items t ≡ number items u → t ≡ u
same-number items t u known other same =
    same-from t u 0 (number items t) items (place-of (place items t) known)
    (place-of (place items u) other ∙ ap (λ (n : ℕ). Some n) (sym same))

has-by : (b : Bool) (i : ℕ) (rest : Option ℕ) → is_some (cond b (Some i) rest) ≡ false → (b ≡ false) × (is_some rest ≡ false)
has-by true i rest is = cc
has-by false i rest is = (refl, is)

eq-by : (b : Bool) (t u : List ℕ) → bytes_eq t u ≡ b → b ≡ false → t ≡ u → ⊥
eq-by true t u is differ same = cc
eq-by false t u is differ same = let e : bytes_eq t u ≡ true = (bytes_eq-Decides t u).1 same in cc

-- the number of a text that doesn't stand before is none of the numbers before
other-number : (items : List (List ℕ)) (t : List ℕ) (i : ℕ) (before : List (List ℕ)) → has items t ≡ true → list_all (has items) before ≡ true
    → is_some (position_from (bytes_eq t) i before) ≡ false → list_any (λ m. m == number items t) (map (number items) before) ≡ false
other-number items t i [] known all absent = refl
other-number items t i (u ∷ before) known all absent =
    let parts = and-parts (has items u) (list_all (has items) before) all in
    let apart = has-by (bytes_eq t u) i (position_from (bytes_eq t) (i + 1) before) absent in
    let rest = other-number items t (i + 1) before known parts.1 apart.1 in
    elim (eqb_tells (number items u) (number items t)) [
      | inl e ↦ absurd (eq-by (bytes_eq t u) t u refl apart.0 (same-number items t u known parts.0 (sym e.1)))
      | inr f ↦ rw f.0 rest
    ]

known-by : (b : Bool) (path : List ℕ) → ◌≡◌ {A = Checked} (cond b right (Err (Unknown path))) right → b ≡ true
known-by true path is = refl
known-by false path is = let no : ◌≡◌ {A = Checked} (Err (Unknown path)) right = is in cc

not-true : (b : Bool) → not b ≡ true → b ≡ false
not-true false is = refl
not-true true is = cc

not-false : (b : Bool) → b ≡ false → not b ≡ true
not-false false is = refl
not-false true is = cc

all-push : (items before : List (List ℕ)) (t : List ℕ) → list_all (has items) before ≡ true → has items t ≡ true → list_all (has items) (before ++ t ∷ []) ≡ true
all-push items before t all known =
    list_all-append (has items) before (t ∷ []) ∙ and-true _ _ all (and-true _ _ known refl)

pub numbers-apart : (items : List (List ℕ)) (path : List ℕ) (n : ℕ) (before texts : List (List ℕ)) → list_all (has items) before ≡ true
    → all_known items path n before texts ≡ right → no_number_twice (map (number items) before) (map (number items) texts) ≡ true
numbers-apart items path n before [] all is = refl
numbers-apart items path n before (t ∷ texts) all is =
    let parts = both (known_at items (nth path n) before t) (all_known items path (suc n) (before ++ t ∷ []) texts) is in
    let here = both (fresh (nth path n) before t) (cond (has items t) right (Err (Unknown (nth path n)))) parts.0 in
    let known : has items t ≡ true = known-by (has items t) (nth path n) here.1 in
    let absent : has before t ≡ false = not-true _ (fresh-not (nth path n) before t here.0) in
    let rest = numbers-apart items path (suc n) (before ++ t ∷ []) texts (all-push items before t all known) parts.1 in
    and-true _ _ (not-false _ (other-number items t 0 before known all absent))
    (subst (λ (ns : List ℕ). no_number_twice ns (map (number items) texts) ≡ true) (map-append (number items) before (t ∷ [])) rest)

pub numbers-below : (items : List (List ℕ)) (path : List ℕ) (n size : ℕ) (before texts : List (List ℕ)) → size ≡ length items
    → all_known items path n before texts ≡ right → list_all (λ m. nat_lt m size) (map (number items) texts) ≡ true
numbers-below items path n size before [] same is = refl
numbers-below items path n size before (t ∷ texts) same is =
    let parts = both (known_at items (nth path n) before t) (all_known items path (suc n) (before ++ t ∷ []) texts) is in
    let below = known-number items (nth path n) before t parts.0 in
    let here : nat_lt (number items t) size ≡ true = elim (leb_tells (suc (number items t)) size) [ inl e ↦ e.0 | inr f ↦ absurd (omega (arith, below, same, f.1)) ] in
    and-true _ _ here (numbers-below items path (suc n) size (before ++ t ∷ []) texts same parts.1)
