-- A name's number is that of its first place among the names.
use denote.Ref.{Bor}
use Rattle.std.proofs.lemmas.List.{length-map, length-take-le, map-append}
use Rattle.std.proofs.lemmas.Grind.{take_at_read}
use Rattle.std.proofs.lemmas.Map.Text.{hash_map_updates_text}
use Rattle.std.proofs.lemmas.Slice.Eq.{bytes_eq-Decides}
use Rattle.std.proofs.lemmas.Slice.Zip.{AllZip-left, AllZip-right}
use Rattle.std.specs.HashMap.{HashMap, get_by_text, UpdatesBy}
use Rattle.std.specs.List.{AllZip}
use Rattle.std.specs.Prelude.{String, string_bytes, is_some, IsSomeAnd, MatchOption}
use Rattle.std.specs.String.{string_eq}
use Rattle.name_index.specs.Indexed.{noted_at}
use Rattle.std.proofs.Common.{take, length, get_or, subst, ◌++◌, ◌≡◌, ◌∙◌, ◌≤◌, ◌<◌, ◌+◌, ap, sym, refl, arith, inl, inr, ℕ, suc, Bool, true, false, cond, List, [], ◌∷◌, map, Option, Some, None, ◌==◌}
use Rattle.std.specs.List.{position_from}
use Rattle.std.specs.Option.{option_copied, option_or}
use Rattle.std.specs.Prelude.{slice_get, nat_lt, if◌then◌else◌}
use Rattle.std.specs.Str.{bytes_eq}
use Rattle.std.proofs.lemmas.Bool.Decides.{eqb_tells, leb_tells}
use Rattle.item_types.specs.declared.decl.MethodSig.{MethodSig}
use Rattle.item_types.specs.declared.decl.RecorderDecl.{RecorderDecl}
use Rattle.syntax_tree.specs.Undeclared.{no_number}
use Rattle.syntax_tree.specs.Naming.{place_of, methods_by}
use Rattle.name_directory.specs.Numbers.{number_at, method_names, HasPlaces, AreMethods}
use Rattle.name_index.specs.Place.{place}
use Rattle.name_index.proofs.CallerLemmas.{bytes_eq-sym, from-first, placed}

-- a place that is not below the last number
last-by : (b : Bool) (n : ℕ) → nat_lt n no_number ≡ b → b ≡ false → number_at (Some n) ≡ no_number
last-by true n is fails = cc
last-by false n is fails = ap (λ (b : Bool). if b then n else no_number) is

last : (found : Option ℕ) → ((n : ℕ) → found ≡ Some n → no_number ≤ n) → number_at found ≡ no_number
last None above = refl
last (Some n) above =
    let at = above n refl in
    elim (leb_tells (suc n) no_number) [
      | inl e ↦ let below = e.1 in absurd (omega (arith, at, below))
      | inr f ↦ last-by (nat_lt n no_number) n refl f.0
    ]

first : (n : ℕ) → n < no_number → number_at (Some n) ≡ n
first n below =
    elim (leb_tells (suc n) no_number) [
      | inl e ↦ ap (λ (b : Bool). if b then n else no_number) e.0
      | inr f ↦ let above = f.1 in absurd (omega (arith, below, above))
    ]

at-by : (b : Bool) (x r : ℕ) → b ≡ true → r ≡ no_number → (if b then no_number else x) ≡ r
at-by true x r is last = sym last
at-by false x r is last = cc

off-by : (b : Bool) (x r : ℕ) → b ≡ false → x ≡ r → (if b then no_number else x) ≡ r
off-by false x r is same = same
off-by true x r is same = cc

step-by : (b c : Bool) (i rest : ℕ) (found : Option ℕ) → b ≡ c → i < no_number → rest ≡ number_at found → (if b then i else rest) ≡ number_at (cond c (Some i) found)
step-by true true i rest found same below later = sym (first i below)
step-by false false i rest found same below later = later
step-by true false i rest found same below later = cc
step-by false true i rest found same below later = cc

numbered-from : {A : Type 0} (name : A → List ℕ) (i : ℕ) (xs : List A) (w : List ℕ) → i ≤ no_number → place_of name i xs w ≡ number_at (position_from (bytes_eq w) i (map name xs))
numbered-from name i [] w few = refl
numbered-from name i (x ∷ xs) w few =
    elim (eqb_tells i no_number) [
      | inl e ↦
          let here = e.1 in
          at-by (i == no_number) (if bytes_eq (name x) w then i else place_of name (i + 1) xs w) (number_at (position_from (bytes_eq w) i (map name (x ∷ xs)))) e.0
          (last (position_from (bytes_eq w) i (map name (x ∷ xs))) (λ n is. let above = from-first (bytes_eq w) i n (map name (x ∷ xs)) is in omega (arith, here, above)))
      | inr f ↦
          let below : i < no_number = let apart = f.1 in elim (leb_tells (suc i) no_number) [ inl e ↦ e.1 | inr g ↦ let above = g.1 in absurd (apart (omega (arith, few, above))) ] in
          off-by (i == no_number) (if bytes_eq (name x) w then i else place_of name (i + 1) xs w) (number_at (position_from (bytes_eq w) i (map name (x ∷ xs)))) f.0
          (step-by (bytes_eq (name x) w) (bytes_eq w (name x)) i (place_of name (i + 1) xs w) (position_from (bytes_eq w) (i + 1) (map name xs)) (bytes_eq-sym _ _ (name x) w refl refl) below
          (numbered-from name (i + 1) xs w (omega (arith, below))))
    ]

-- the number of a name among things with names
pub numbered : {A : Type 0} (name : A → List ℕ) (xs : List A) (names : List (List ℕ)) (w : List ℕ) → names ≡ map name xs → number_at (place names w) ≡ place_of name 0 xs w
numbered name xs names w is = ap (λ (ns : List (List ℕ)). number_at (place ns w)) is ∙ sym (numbered-from name 0 xs w (omega arith))

abbrev pub method_place : Option RecorderDecl → List ℕ → ℕ
method_place found m = place_of (λ (x : MethodSig). x.name) 0 (methods_by found) m

some-by : {Y S : Type 0} (places : HashMap (String Y) ℕ S) (found : Option RecorderDecl) (m : List ℕ) → IsSomeAnd found (λ r. HasPlaces places (method_names r)) → number_at (get_by_text places m) ≡ method_place found m
some-by places (Some r) m has = ap number_at (has m) ∙ numbered (λ (x : MethodSig). x.name) r.methods (method_names r) m refl
some-by places None m has = absurd has

at-some : {Y S : Type 0} (places : HashMap (String Y) ℕ S) (at : Option (HashMap (String Y) ℕ S)) (found : Option RecorderDecl) → Some places ≡ at
    → MatchOption at (Unit {0}) (λ ps. IsSomeAnd found (λ r. HasPlaces ps (method_names r))) → IsSomeAnd found (λ r. HasPlaces places (method_names r))
at-some {Y} {S} places at found is matched = subst (λ (o : Option (HashMap (String Y) ℕ S)). MatchOption o (Unit {0}) (λ ps. IsSomeAnd found (λ r. HasPlaces ps (method_names r)))) (sym is) matched

-- the number of a method among the methods of the recorder of that number
pub method_some : {Y S : Type 0} (rs : List RecorderDecl) (all : List (HashMap (String Y) ℕ S)) (k : ℕ) (places : HashMap (String Y) ℕ S) (m : List ℕ) → AreMethods all rs → Some places ≡ slice_get all k
    → number_at (get_by_text places m) ≡ method_place (slice_get rs k) m
method_some rs all k places m are at =
    some-by places (slice_get rs k) m (at-some places (slice_get all k) (slice_get rs k) at (AllZip-left (λ ps r. HasPlaces ps (method_names r)) all rs are k))

none-by : {Y S : Type 0} (at : Option (HashMap (String Y) ℕ S)) (found : Option RecorderDecl) (m : List ℕ) → None ≡ at
    → MatchOption found (Unit {0}) (λ r. IsSomeAnd at (λ ps. HasPlaces ps (method_names r))) → no_number ≡ method_place found m
none-by at None m is matched = refl
none-by {Y} {S} at (Some r) m is matched = absurd (subst (λ (o : Option (HashMap (String Y) ℕ S)). IsSomeAnd o (λ ps. HasPlaces ps (method_names r))) (sym is) matched)

pub method_none : {Y S : Type 0} (rs : List RecorderDecl) (all : List (HashMap (String Y) ℕ S)) (k : ℕ) (m : List ℕ) → AreMethods all rs → None ≡ slice_get all k → no_number ≡ method_place (slice_get rs k) m
method_none rs all k m are at = none-by (slice_get all k) (slice_get rs k) m at (AllZip-right (λ ps r. HasPlaces ps (method_names r)) all rs are k)

-- ---- a map of places, name by name

none-of : {A : Type 0} (found : Option (Bor A)) → is_some found ≡ false → option_copied found ≡ None
none-of None is = refl
none-of (Some x) is = cc

or-none : (o : Option ℕ) → o ≡ option_or o None
or-none None = refl
or-none (Some n) = refl

noted-by : (b c : Bool) (found : Option ℕ) (n : ℕ) → b ≡ c → (c ≡ true → found ≡ None) → cond b (Some n) found ≡ option_or found (cond c (Some n) None)
noted-by true true found n same absent = ap (λ f. option_or f (Some n)) (sym (absent refl))
noted-by false false found n same absent = or-none found
noted-by true false found n same absent = cc
noted-by false true found n same absent = cc

pub noted : {Y S : Type 0} (old new : HashMap (String Y) ℕ S) (key name : List ℕ) (found : Option (Bor ℕ)) (n : ℕ) → key ≡ name → option_copied found ≡ get_by_text old name → is_some found ≡ false
    → UpdatesBy string_eq (λ k. bytes_eq key (string_bytes k)) old new (Some n) → (text : List ℕ) → get_by_text new text ≡ noted_at name n (get_by_text old text) text
noted old new key name found n same looked is sets text =
    let absent : get_by_text old name ≡ None = sym looked ∙ none-of found is in
    hash_map_updates_text key old new (Some n) sets text
    ∙ ap (λ (v : List ℕ). cond (bytes_eq v text) (Some n) (get_by_text old text)) same
    ∙ noted-by (bytes_eq name text) (bytes_eq text name) (get_by_text old text) n (bytes_eq-sym _ _ name text refl refl) (λ equal. ap (get_by_text old) ((bytes_eq-Decides text name).0 equal) ∙ absent)

pub noted_more : {A Y S : Type 0} (named : A → List ℕ) (xs : List A) (i : ℕ) (x : A) (name : List ℕ) (old new : HashMap (String Y) ℕ S) → i < length xs → x ≡ get_or xs i x → name ≡ named x
    → HasPlaces old (map named (take i xs)) → ((text : List ℕ) → get_by_text new text ≡ noted_at name i (get_by_text old text) text)
    → HasPlaces new (map named (take (i + 1) xs))
noted_more {A} named xs i x name old new below at is before now text =
    let size : i ≡ length (map named (take i xs)) = sym (length-map (take i xs) named ∙ length-take-le i xs (omega (arith, below))) in
    let all : map named (take i xs) ++ name ∷ [] ≡ map named (take (i + 1) xs)
    = ap (λ (v : List ℕ). map named (take i xs) ++ v ∷ []) is ∙ sym (map-append named (take i xs) (x ∷ [])) ∙ sym (ap (map named) ((take_at_read xs i x below).1 ∙ ap (λ (y : A). take i xs ++ y ∷ []) (sym at))) in
    now text
    ∙ ap (λ (f : Option ℕ). noted_at name i f text) (before text)
    ∙ ap (λ (k : ℕ). noted_at name k (place (map named (take i xs)) text) text) size
    ∙ sym (placed (map named (take i xs)) name text)
    ∙ ap (λ (ns : List (List ℕ)). place ns text) all

zip-push : {A B : Type 0} (R : A → B → Type 0) (xs : List A) (ys : List B) (x : A) (y : B) → AllZip R xs ys → R x y → AllZip R (xs ++ x ∷ []) (ys ++ y ∷ [])
zip-push R [] [] x y all here = (here, tt)
zip-push R [] (z ∷ ys) x y all here = absurd all
zip-push R (z ∷ xs) [] x y all here = absurd all
zip-push R (z ∷ xs) (w ∷ ys) x y all here = (all.0, zip-push R xs ys x y all.1 here)

pub one_more : {Y S : Type 0} (rs : List RecorderDecl) (i : ℕ) (r : RecorderDecl) (found new : List (HashMap (String Y) ℕ S)) (places : HashMap (String Y) ℕ S) → i < length rs → r ≡ get_or rs i r
    → AreMethods found (take i rs) → HasPlaces places (method_names r) → new ≡ found ++ places ∷ [] → AreMethods new (take (i + 1) rs)
one_more {Y} {S} rs i r found new places below at so_far has is =
    let longer : take (i + 1) rs ≡ take i rs ++ r ∷ [] = (take_at_read rs i r below).1 ∙ ap (λ (y : RecorderDecl). take i rs ++ y ∷ []) (sym at) in
    subst (λ (v : List RecorderDecl). AreMethods new v) (sym longer)
    (subst (λ (v : List (HashMap (String Y) ℕ S)). AreMethods v (take i rs ++ r ∷ [])) (sym is)
    (zip-push (λ ps d. HasPlaces ps (method_names d)) found (take i rs) places r so_far has))
