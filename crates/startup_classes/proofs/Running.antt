-- The loop over the list: what holds once some of its files are loaded.
use Rattle.std.proofs.Common.{◌≡◌, ◌⊎◌, inl, inr, ℕ, zero, suc, ◌+◌, ◌<◌, ◌≤◌, List, [], ◌∷◌, ◌++◌, length, take, false, Some, None, refl, sym, ap, subst, ◌∙◌, arith, length-append}
use Rattle.std.specs.List.{All, slice_get, slice_index_or}
use Rattle.std.proofs.lemmas.Bool.{cases_lt}
use Rattle.std.proofs.lemmas.Bool.Decides.{nat_tests}
use Rattle.std.proofs.lemmas.Option.{slice_get_within}
use Rattle.std.proofs.lemmas.List.Elements.{All-append}
use Rattle.class_pool.specs.declared.class.Class.{Class}
use Rattle.class_grammar.specs.Layout.{IsBytes}
use Rattle.class_grammar.specs.Valid.{IsValid}
use Rattle.startup_classes.specs.declared.load_fault.LoadFault.{LoadFault}
use Rattle.startup_classes.specs.Loading.{IsClassOf, IsFaultAt, AreFirst, AreBytes, AllLoaded, Stopped, first_large, is_large}
use Rattle.startup_classes.proofs.Places.{at_last, take_one, none_passes}

not_large : (b : List ℕ) → is_large b ≡ false → length b ≤ 2_000_000
not_large b e = grind (arith, nat_tests)

-- the first i files are loaded
pub record AreLoaded (listed files earlier : List (List ℕ)) (found : List Class) (i : ℕ) : Type 0 where
  pub count : length found ≡ i
  pub names : earlier ≡ take i listed
  pub first : AreFirst listed files found
  pub valid : All IsValid found
  pub bytes : (j : ℕ) (b : List ℕ) → j < i → slice_get files j ≡ Some b → IsBytes b

none_there : {X : Type 0} (i : ℕ) (x : X) → slice_get {X = X} [] i ≡ Some x → ⊥
none_there i x e = absurd cc

pub begun : (listed files : List (List ℕ)) → AreLoaded listed files [] [] 0
begun listed files = record {
  count = refl;
  names = refl;
  first = λ i name bytes c n b e. absurd (none_there i c e);
  valid = λ k d h. absurd (omega (arith, h));
  bytes = λ j b less e. absurd (omega (arith, less));
}

single : (c : Class) → IsValid c → (k : ℕ) (d : Class) → k < 1 → IsValid (slice_index_or (c ∷ []) k d)
single c v zero d h = v
single c v (suc k) d h = absurd (omega arith)

first_by : (listed files : List (List ℕ)) (earlier : List (List ℕ)) (found : List Class) (i : ℕ) (name bytes : List ℕ) (c : Class) → AreLoaded listed files earlier found i → slice_get listed i ≡ Some name → slice_get files i ≡ Some bytes → IsClassOf earlier name bytes c
    → (j : ℕ) (n b : List ℕ) (d : Class) → slice_get listed j ≡ Some n → slice_get files j ≡ Some b → (slice_get found j ≡ Some d) ⊎ ((j ≡ length found) × (c ≡ d)) → IsClassOf (take j listed) n b d
first_by listed files earlier found i name bytes c h at_name at_bytes is j n b d at_n at_b (inl e) = h.first j n b d at_n at_b e
first_by listed files earlier found i name bytes c h at_name at_bytes is j n b d at_n at_b (inr p) =
    let place : j ≡ i = p.0 ∙ h.count in
    let names : name ≡ n = let e : Some name ≡ Some n = sym at_name ∙ ap (slice_get listed) (sym place) ∙ at_n in cc in
    let texts : bytes ≡ b = let e : Some bytes ≡ Some b = sym at_bytes ∙ ap (slice_get files) (sym place) ∙ at_b in cc in
    let before : earlier ≡ take j listed = h.names ∙ ap (λ (k : ℕ). take k listed) (sym place) in
    subst (λ (x : List (List ℕ)). IsClassOf x n b d) before (subst (λ (x : List ℕ). IsClassOf earlier x b d) names (subst (λ (x : List ℕ). IsClassOf earlier name x d) texts (subst (λ (x : Class). IsClassOf earlier name bytes x) p.1 is)))

bytes_by : (files : List (List ℕ)) (i : ℕ) (bytes : List ℕ) → ((j : ℕ) (b : List ℕ) → j < i → slice_get files j ≡ Some b → IsBytes b) → slice_get files i ≡ Some bytes → IsBytes bytes → (j : ℕ) (b : List ℕ) → (j < i) ⊎ (i ≤ j) → j ≤ i → slice_get files j ≡ Some b → IsBytes b
bytes_by files i bytes h there fits j b (inl less) le e = h j b less e
bytes_by files i bytes h there fits j b (inr more) le e =
    let place : j ≡ i = omega arith in
    let same : bytes ≡ b = let two : Some bytes ≡ Some b = sym there ∙ ap (slice_get files) (sym place) ∙ e in cc in
    subst IsBytes same fits

pub more_bytes : (files : List (List ℕ)) (i : ℕ) (bytes : List ℕ) → ((j : ℕ) (b : List ℕ) → j < i → slice_get files j ≡ Some b → IsBytes b) → slice_get files i ≡ Some bytes → IsBytes bytes → AreBytes i files
more_bytes files i bytes h there fits = λ j b le e. bytes_by files i bytes h there fits j b (cases_lt j i) le e

-- one more file is loaded
pub one_more : (listed files : List (List ℕ)) (earlier : List (List ℕ)) (found : List Class) (i : ℕ) (name bytes : List ℕ) (c : Class) → AreLoaded listed files earlier found i → slice_get listed i ≡ Some name → slice_get files i ≡ Some bytes → IsClassOf earlier name bytes c → IsValid c → IsBytes bytes
    → AreLoaded listed files (earlier ++ name ∷ []) (found ++ c ∷ []) (i + 1)
one_more listed files earlier found i name bytes c h at_name at_bytes is valid fits = record {
  count = omega (arith, length-append found (c ∷ []), h.count);
  names = ap (λ (x : List (List ℕ)). x ++ name ∷ []) h.names ∙ sym (take_one listed name i at_name);
  first = λ j n b d at_n at_b e. first_by listed files earlier found i name bytes c h at_name at_bytes is j n b d at_n at_b (at_last found c d j e);
  valid = All-append IsValid found (c ∷ []) h.valid (single c valid);
  bytes = λ j b less e. more_bytes files i bytes h.bytes at_bytes fits j b (omega arith) e;
}

pub one_more_is : (listed files earlier next : List (List ℕ)) (found more : List Class) (i : ℕ) (name bytes : List ℕ) (c : Class) → next ≡ earlier ++ name ∷ [] → more ≡ found ++ c ∷ [] → AreLoaded listed files earlier found i → slice_get listed i ≡ Some name → slice_get files i ≡ Some bytes → IsClassOf earlier name bytes c → IsValid c → IsBytes bytes
    → AreLoaded listed files next more (i + 1)
one_more_is listed files earlier next found more i name bytes c a b h at_name at_bytes is valid fits = rw (a, b) (one_more listed files earlier found i name bytes c h at_name at_bytes is valid fits)

-- a file that isn't large fits
pub small : (files : List (List ℕ)) (i : ℕ) (b : List ℕ) → first_large files ≡ None → slice_get files i ≡ Some b → length b ≤ 2_000_000
small files i b none e = not_large b (none_passes is_large 0 files i b none e)

-- all are loaded
pub finished : (listed files : List (List ℕ)) (earlier : List (List ℕ)) (found : List Class) (i : ℕ) → length listed ≡ length files → length listed ≤ 2049 → i ≡ length listed → AreLoaded listed files earlier found i → AllLoaded listed files found
finished listed files earlier found i same few all h = record {
  count = h.count ∙ all;
  first = h.first;
  kept = record { few = omega (arith, h.count); valid = h.valid };
  bytes = λ j b le e. h.bytes j b (let within : j < length files = slice_get_within files j b e in omega arith) e;
}

-- a fault stops them
pub stopped : (listed files : List (List ℕ)) (earlier : List (List ℕ)) (found : List Class) (i : ℕ) (name bytes : List ℕ) (f : LoadFault) → AreLoaded listed files earlier found i → slice_get listed i ≡ Some name → slice_get files i ≡ Some bytes → IsFaultAt earlier i name bytes f → IsBytes bytes → Stopped listed files f
stopped listed files earlier found i name bytes f h at_name at_bytes wrong fits = record {
  found = found;
  at = record {
    first = h.first;
    name = name;
    bytes = bytes;
    name_there = ap (slice_get listed) h.count ∙ at_name;
    bytes_there = ap (slice_get files) h.count ∙ at_bytes;
    fault = subst (λ (k : ℕ). IsFaultAt (take k listed) k name bytes f) (sym h.count) (subst (λ (x : List (List ℕ)). IsFaultAt x i name bytes f) h.names wrong);
  };
  bytes = subst (λ (k : ℕ). AreBytes k files) (sym h.count) (more_bytes files i bytes h.bytes at_bytes fits);
}
