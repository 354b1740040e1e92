-- Where a name stands among names, when one more name comes.
use denote.Ref.{Bor}
use Rattle.std.proofs.Common.{◌≤◌, ◌≡◌, ◌+◌, ◌<◌, ◌∙◌, ℕ, suc, ap, sym, refl, arith, inl, inr, Bool, true, false, cond, List, [], ◌∷◌, ◌++◌, length, map, Option, Some, None, IfSome, add-zero}
use Rattle.std.specs.HashMap.{HashMap, UpdatesBy}
use Rattle.std.specs.List.{position_from}
use Rattle.std.specs.Option.{option_or}
use Rattle.std.specs.Str.{bytes_eq}
use Rattle.std.proofs.lemmas.Map.Text.{hash_map_updates_str}
use Rattle.std.proofs.lemmas.Slice.Eq.{bytes_eq-Decides}
use Rattle.name_index.specs.Place.{place}
use Rattle.name_index.specs.Indexed.{texts, place_in, IsIndexed, noted_at, unless, left_behind}
use Rattle.std.proofs.lemmas.Bool.Decides.{eqb_tells}

placed-in : (b : Bool) (rest all last : Option ℕ) (i : ℕ) → all ≡ option_or rest last → cond b (Some i) all ≡ option_or (cond b (Some i) rest) last
placed-in true rest all last i is = refl
placed-in false rest all last i is = is

placed-from : (test : List ℕ → Bool) (i : ℕ) (names : List (List ℕ)) (name : List ℕ)
    → position_from test i (names ++ name ∷ []) ≡ option_or (position_from test i names) (cond (test name) (Some (i + length names)) None)
placed-from test i [] name = ap (λ n. cond (test name) (Some n) None) (sym (add-zero i))
placed-from test i (x ∷ names) name =
    let at : (i + 1) + length names ≡ i + length (x ∷ names) = omega arith in
    placed-in (test x) (position_from test (i + 1) names) (position_from test (i + 1) (names ++ name ∷ [])) (cond (test name) (Some (i + length (x ∷ names))) None) i
    (placed-from test (i + 1) names name ∙ ap (λ n. option_or (position_from test (i + 1) names) (cond (test name) (Some n) None)) at)

-- one more name is found where no earlier one is
pub placed : (names : List (List ℕ)) (name text : List ℕ) → place (names ++ name ∷ []) text ≡ option_or (place names text) (cond (bytes_eq text name) (Some (length names)) None)
placed names name text = placed-from (bytes_eq text) 0 names name ∙ ap (λ n. option_or (place names text) (cond (bytes_eq text name) (Some n) None)) (omega arith)

pub bytes_eq-sym : (b c : Bool) (x y : List ℕ) → bytes_eq x y ≡ b → bytes_eq y x ≡ c → b ≡ c
bytes_eq-sym true true x y p q = refl
bytes_eq-sym false false x y p q = refl
bytes_eq-sym true false x y p q =
    let same : x ≡ y = (bytes_eq-Decides x y).0 p in
    let e : bytes_eq y x ≡ true = (bytes_eq-Decides y x).1 (sym same) in cc
bytes_eq-sym false true x y p q =
    let same : y ≡ x = (bytes_eq-Decides y x).0 q in
    let e : bytes_eq x y ≡ true = (bytes_eq-Decides x y).1 (sym same) in cc

unless-same : (n : ℕ) → unless n (Some n) ≡ None
unless-same n = elim (eqb_tells n n) [ inl e ↦ ap (λ b. cond b None (Some n)) e.0 | inr f ↦ absurd (f.1 refl) ]

unless-other : (n m : ℕ) → m < n → unless n (Some m) ≡ Some m
unless-other n m below =
    elim (eqb_tells m n) [
      | inl e ↦ let same = e.1 in absurd (omega (arith, below, same))
      | inr f ↦ ap (λ b. cond b None (Some m)) f.0
    ]

abbrev pub Sets : {S : Type 0} → List ℕ → HashMap (Bor (List ℕ)) ℕ S → HashMap (Bor (List ℕ)) ℕ S → Option ℕ → Type 0
Sets name old new value = UpdatesBy (λ (x y : Bor (List ℕ)). bytes_eq x.now y.now) (λ (k : Bor (List ℕ)). bytes_eq name k.now) old new value

taken-by : (b c : Bool) (found : Option ℕ) (n : ℕ) → b ≡ c → (c ≡ true → found ≡ Some n) → cond b None found ≡ cond c (unless n found) found
taken-by true true found n same at = sym (ap (unless n) (at refl) ∙ unless-same n)
taken-by false false found n same at = refl
taken-by true false found n same at = cc
taken-by false true found n same at = cc

pub taken : {S : Type 0} (old new : HashMap (Bor (List ℕ)) ℕ S) (name : List ℕ) (n : ℕ) → place_in old name ≡ Some n → Sets name old new None
    → (text : List ℕ) → place_in new text ≡ left_behind name n (place_in old text) text
taken old new name n at sets text =
    hash_map_updates_str name old new None sets text
    ∙ taken-by (bytes_eq name text) (bytes_eq text name) (place_in old text) n (bytes_eq-sym _ _ name text refl refl) (λ same. ap (place_in old) ((bytes_eq-Decides text name).0 same) ∙ at)

pub map-push : (names : List (Bor (List ℕ))) (name : Bor (List ℕ)) → map (λ n. n.now) (names ++ name ∷ []) ≡ map (λ n. n.now) names ++ name.now ∷ []
map-push [] name = refl
map-push (x ∷ names) name = ap (λ rest. x.now ∷ rest) (map-push names name)

pub map-length : (names : List (Bor (List ℕ))) → length (map (λ n. n.now) names) ≡ length names
map-length [] = refl
map-length (x ∷ names) = ap suc (map-length names)

within-in : (b : Bool) (rest : Option ℕ) (i n size : ℕ) → cond b (Some i) rest ≡ Some n → (rest ≡ Some n → n < (i + 1) + size) → n < i + suc size
within-in true rest i n size is later = let same : i ≡ n = cc in omega (arith, same)
within-in false rest i n size is later = omega (arith, later is)

within-from : (test : List ℕ → Bool) (i n : ℕ) (names : List (List ℕ)) → position_from test i names ≡ Some n → n < i + length names
within-from test i n [] is = cc
within-from test i n (x ∷ names) is = within-in (test x) (position_from test (i + 1) names) i n (length names) is (λ later. within-from test (i + 1) n names later)

pub place-within : (names : List (List ℕ)) (text : List ℕ) (found : Option ℕ) → found ≡ place names text → IfSome found (λ n. n < length names)
place-within names text None is = tt
place-within names text (Some n) is = let below : n < 0 + length names = within-from (bytes_eq text) 0 n names (sym is) in omega (arith, below)

-- ---- one more name, and one less

pub pushed : {S : Type 0} (old new : HashMap (Bor (List ℕ)) ℕ S) (before all : List (Bor (List ℕ))) (name : Bor (List ℕ)) (n : ℕ)
    → IsIndexed old (texts before) → n ≡ length before → all ≡ before ++ name ∷ [] → ((text : List ℕ) → place_in new text ≡ noted_at name.now n (place_in old text) text)
    → IsIndexed new (texts all)
pushed old new before all name n indexed long is now text =
    now text ∙ ap (λ found. noted_at name.now n found text) (indexed text)
    ∙ ap (λ k. noted_at name.now k (place (texts before) text) text) (long ∙ sym (map-length before))
    ∙ sym (placed (texts before) name.now text)
    ∙ ap (λ names. place names text) (sym (ap texts is ∙ map-push before name))

popped-by : (c : Bool) (found : Option ℕ) (n : ℕ) → IfSome found (λ m. m < n) → cond c (unless n (option_or found (cond c (Some n) None))) (option_or found (cond c (Some n) None)) ≡ found
popped-by true None n within = unless-same n
popped-by true (Some m) n within = unless-other n m within
popped-by false None n within = refl
popped-by false (Some m) n within = refl

pub popped : {S : Type 0} (old new : HashMap (Bor (List ℕ)) ℕ S) (before all : List (Bor (List ℕ))) (name : Bor (List ℕ)) (n : ℕ)
    → IsIndexed old (texts all) → n ≡ length before → all ≡ before ++ name ∷ [] → ((text : List ℕ) → place_in new text ≡ left_behind name.now n (place_in old text) text)
    → IsIndexed new (texts before)
popped old new before all name n indexed long is now text =
    let size : n ≡ length (texts before) = long ∙ sym (map-length before) in
    now text
    ∙ ap (λ found. left_behind name.now n found text) (indexed text ∙ ap (λ names. place names text) (ap texts is ∙ map-push before name) ∙ placed (texts before) name.now text)
    ∙ ap (λ k. left_behind name.now k (option_or (place (texts before) text) (cond (bytes_eq text name.now) (Some (length (texts before))) None)) text) size
    ∙ popped-by (bytes_eq text name.now) (place (texts before) text) (length (texts before)) (place-within (texts before) text (place (texts before) text) refl)

-- ---- places in order

from-by : (b : Bool) (test : List ℕ → Bool) (i k : ℕ) (names : List (List ℕ)) → cond b (Some i) (position_from test (i + 1) names) ≡ Some k → (position_from test (i + 1) names ≡ Some k → i + 1 ≤ k) → i ≤ k
from-by true test i k names is later = let e : i ≡ k = cc in omega (arith, e)
from-by false test i k names is later = let below = later is in omega (arith, below)

-- a place that is found is none before the first
pub from-first : (test : List ℕ → Bool) (i k : ℕ) (names : List (List ℕ)) → position_from test i names ≡ Some k → i ≤ k
from-first test i k [] is = cc
from-first test i k (x ∷ names) is = from-by (test x) test i k names is (from-first test (i + 1) k names)
