-- Full names of steps: a name has no dot, so a full name says which extension it is of.
use Rattle.std.proofs.Common.{◌≡◌, ◌∙◌, ap, sym, refl, subst, append_assoc, ℕ, ◌+◌, Bool, true, false, not, cond, ◌||◌, List, [], ◌∷◌, ◌++◌, map, Option, Some}
use Rattle.std.specs.List.{list_all, list_any, position_from}
use Rattle.std.specs.Prelude.{codes, is_some}
use Rattle.std.specs.Str.{bytes_eq}
use Rattle.std.proofs.lemmas.List.{map-append}
use Rattle.std.proofs.lemmas.Slice.Eq.{bytes_eq-Decides}
use Rattle.ext_draft.specs.Names.{is_name, is_name_part}
use Rattle.name_index.specs.Place.{has}
use Rattle.project_fit.specs.Fits.{none_twice}
use Rattle.project_fit.proofs.Apart.{and-true, and-parts}

-- a text is its own name
pub own_names : (names : List (List ℕ)) → map (λ (t : List ℕ). t) names ≡ names
own_names [] = refl
own_names (x ∷ names) = ap (λ (rest : List (List ℕ)). x ∷ rest) (own_names names)

-- ---- whether a text is among others

any-by : (b c : Bool) (i : ℕ) (found : Option ℕ) → is_some found ≡ c → is_some (cond b (Some i) found) ≡ (b || c)
any-by true c i found is = refl
any-by false c i found is = is

any-from : (test : List ℕ → Bool) (i : ℕ) (names : List (List ℕ)) → is_some (position_from test i names) ≡ list_any test names
any-from test i [] = refl
any-from test i (x ∷ names) = any-by (test x) (list_any test names) i (position_from test (i + 1) names) (any-from test (i + 1) names)

pub has-any : (names : List (List ℕ)) (text : List ℕ) → has names text ≡ list_any (bytes_eq text) names
has-any names text = any-from (bytes_eq text) 0 names

or-false : (a b : Bool) → a ≡ false → b ≡ false → (a || b) ≡ false
or-false false b p q = q
or-false true b p q = p

or-parts : (a b : Bool) → (a || b) ≡ false → (a ≡ false) × (b ≡ false)
or-parts false b is = (refl, is)
or-parts true b is = cc

any-append : (test : List ℕ → Bool) (xs ys : List (List ℕ)) → list_any test xs ≡ false → list_any test ys ≡ false → list_any test (xs ++ ys) ≡ false
any-append test [] ys p q = q
any-append test (x ∷ xs) ys p q =
    let parts = or-parts (test x) (list_any test xs) p in
    or-false (test x) (list_any test (xs ++ ys)) parts.0 (any-append test xs ys parts.1 q)

-- ---- full names of one extension

-- the full name of a step of that name
abbrev pub full : List ℕ → List ℕ → List ℕ
full ext name = ext ++ (codes "." ++ name)

tail-of : (c d : ℕ) (xs ys : List ℕ) → c ∷ xs ≡ d ∷ ys → xs ≡ ys
tail-of c d xs ys same = cc

head-of : (c d : ℕ) (xs ys : List ℕ) → c ∷ xs ≡ d ∷ ys → c ≡ d
head-of c d xs ys same = cc

cancel : (xs ys zs : List ℕ) → xs ++ ys ≡ xs ++ zs → ys ≡ zs
cancel [] ys zs same = same
cancel (x ∷ xs) ys zs same = cancel xs ys zs (tail-of x x (xs ++ ys) (xs ++ zs) same)

same-name : (ext x y : List ℕ) → full ext x ≡ full ext y → x ≡ y
same-name ext x y same = cancel (codes ".") x y (cancel ext (codes "." ++ x) (codes "." ++ y) same)

eq-by : (b : Bool) (x y : List ℕ) → bytes_eq x y ≡ b → (x ≡ y → ⊥) → b ≡ false
eq-by false x y is apart = refl
eq-by true x y is apart = absurd (apart ((bytes_eq-Decides x y).0 is))

differ : (x y : List ℕ) → bytes_eq x y ≡ false → x ≡ y → ⊥
differ x y is same = let e : bytes_eq x y ≡ true = (bytes_eq-Decides x y).1 same in let no : true ≡ false = sym e ∙ is in cc

full-any : (ext x : List ℕ) (names : List (List ℕ)) → list_any (bytes_eq x) names ≡ false → list_any (bytes_eq (full ext x)) (map (full ext) names) ≡ false
full-any ext x [] is = refl
full-any ext x (y ∷ names) is =
    let parts = or-parts (bytes_eq x y) (list_any (bytes_eq x) names) is in
    or-false (bytes_eq (full ext x) (full ext y)) (list_any (bytes_eq (full ext x)) (map (full ext) names))
    (eq-by (bytes_eq (full ext x) (full ext y)) (full ext x) (full ext y) refl (λ same. differ x y parts.0 (same-name ext x y same)))
    (full-any ext x names parts.1)

not-true : (b : Bool) → not b ≡ true → b ≡ false
not-true false is = refl
not-true true is = cc

not-false : (b : Bool) → b ≡ false → not b ≡ true
not-false false is = refl
not-false true is = cc

-- names that stand once are full names that stand once, behind others that none of them is
pub full-apart : (ext : List ℕ) (others before names : List (List ℕ)) → ((x : List ℕ) → list_any (bytes_eq (full ext x)) others ≡ false) → none_twice before names ≡ true
    → none_twice (others ++ map (full ext) before) (map (full ext) names) ≡ true
full-apart ext others before [] apart once = refl
full-apart ext others before (x ∷ names) apart once =
    let parts = and-parts (not (has before x)) (none_twice (before ++ x ∷ []) names) once in
    let absent : list_any (bytes_eq x) before ≡ false = sym (has-any before x) ∙ not-true (has before x) parts.0 in
    let new : has (others ++ map (full ext) before) (full ext x) ≡ false
    = has-any (others ++ map (full ext) before) (full ext x) ∙ any-append (bytes_eq (full ext x)) others (map (full ext) before) (apart x) (full-any ext x before absent) in
    let rest = full-apart ext others (before ++ x ∷ []) names apart parts.1 in
    let longer : others ++ map (full ext) (before ++ x ∷ []) ≡ (others ++ map (full ext) before) ++ full ext x ∷ []
    = ap (λ (v : List (List ℕ)). others ++ v) (map-append (full ext) before (x ∷ [])) ∙ sym (append_assoc others (map (full ext) before) (full ext x ∷ [])) in
    and-true _ _ (not-false (has (others ++ map (full ext) before) (full ext x)) new)
    (subst (λ (v : List (List ℕ)). none_twice v (map (full ext) names) ≡ true) longer rest)

-- ---- full names of several extensions

abbrev pub is_plain : List ℕ → Bool
is_plain text = list_all is_name_part text

pub name-plain : (text : List ℕ) → is_name text ≡ true → is_plain text ≡ true
unfolding is_name
name-plain text is = (and-parts _ _ (and-parts _ _ (and-parts _ _ is).0).0).1

no-dot : (c : ℕ) → is_name_part c ≡ true → 46 ≡ c → ⊥
no-dot c is same = let e : is_name_part 46 ≡ true = ap is_name_part same ∙ is in let no : false ≡ true = e in cc

-- what stands before the first dot
pub one-extension : (x y v w : List ℕ) → is_plain x ≡ true → is_plain y ≡ true → full x v ≡ full y w → x ≡ y
one-extension [] [] v w p q same = refl
one-extension [] (d ∷ y) v w p q same = absurd (no-dot d (and-parts (is_name_part d) (is_plain y) q).0 (head-of 46 d v (y ++ (codes "." ++ w)) same))
one-extension (c ∷ x) [] v w p q same = absurd (no-dot c (and-parts (is_name_part c) (is_plain x) p).0 (sym (head-of c 46 (x ++ (codes "." ++ v)) w same)))
one-extension (c ∷ x) (d ∷ y) v w p q same =
    let here = head-of c d (full x v) (full y w) same in
    let rest = one-extension x y v w (and-parts (is_name_part c) (is_plain x) p).1 (and-parts (is_name_part d) (is_plain y) q).1 (tail-of c d (full x v) (full y w) same) in
    λ i. here i ∷ rest i

-- a full name of another extension
pub other-full : (x y v w : List ℕ) → is_plain x ≡ true → is_plain y ≡ true → bytes_eq x y ≡ false → bytes_eq (full x v) (full y w) ≡ false
other-full x y v w p q apart = eq-by (bytes_eq (full x v) (full y w)) (full x v) (full y w) refl (λ same. differ x y apart (one-extension x y v w p q same))

-- full names of extensions of these names, none of which is x
pub data AreOf (exts : List (List ℕ)) : List (List ℕ) → Type 0 where
  none : AreOf exts []
  more : (y w : List ℕ) (others : List (List ℕ)) → is_plain y ≡ true → has exts y ≡ true → AreOf exts others → AreOf exts (full y w ∷ others)

same-has : (exts : List (List ℕ)) (x y : List ℕ) (b : Bool) → bytes_eq x y ≡ b → has exts x ≡ false → has exts y ≡ true → b ≡ false
same-has exts x y false is absent present = refl
same-has exts x y true is absent present =
    let same : x ≡ y = (bytes_eq-Decides x y).0 is in
    let no : true ≡ false = sym present ∙ sym (ap (has exts) same) ∙ absent in
    cc

pub others-apart : (exts others : List (List ℕ)) (x v : List ℕ) → AreOf exts others → is_plain x ≡ true → has exts x ≡ false → list_any (bytes_eq (full x v)) others ≡ false
others-apart exts _ x v none plain absent = refl
others-apart exts _ x v (more y w others q present rest) plain absent =
    or-false (bytes_eq (full x v) (full y w)) (list_any (bytes_eq (full x v)) others)
    (other-full x y v w plain q (same-has exts x y (bytes_eq x y) refl absent present)) (others-apart exts others x v rest plain absent)
