-- Numbers, and one part behind the other.
use Rattle.std.proofs.Common.{◌≡◌, ℕ, zero, suc, ◌+◌, ◌-◌, ◌%◌, Bool, true, false, cond, List, [], ◌∷◌, ◌++◌, length, Some, None, refl, sym, ap, ◌∙◌, arith, append_assoc, length-append}
use Rattle.std.specs.Int.{w16, w32, to_be_bytes}
use Rattle.std.specs.List.{flat_map}
use Rattle.std.proofs.lemmas.List.{append-nil}
use Rattle.std.proofs.lemmas.Grind.{flat_map-append}
use Rattle.class_grammar.specs.Layout.{Layout, SpellsNumber, Both, Turned, number, ◌>>=◌, many}
use Rattle.class_grammar.specs.Bytes.{u2, u4}

pub n16 : (n : ℕ) (bytes : List ℕ) → SpellsNumber w16 n bytes → bytes ≡ u2 n
n16 n bytes s = let k : n ≡ n % 65536 = omega (arith, s.fits) in s.bytes_are ∙ ap (to_be_bytes w16) k

pub n32 : (n : ℕ) (bytes : List ℕ) → SpellsNumber w32 n bytes → bytes ≡ u4 n
n32 n bytes s = let k : n ≡ n % 0x1_0000_0000 = omega (arith, s.fits) in s.bytes_are ∙ ap (to_be_bytes w32) k

pub join : {A B : Type 0} {L : Layout A} {k : A → Layout B} {y : B} {bytes : List ℕ} (b : Both L k y bytes) (xs ys : List ℕ) → b.front ≡ xs → b.back ≡ ys → bytes ≡ xs ++ ys
join b xs ys e f = rw (b.parts, e, f) refl

pub end : {A B : Type 0} {L : Layout A} {k : A → Layout B} {y : B} {bytes : List ℕ} (b : Both L k y bytes) (xs : List ℕ) → b.front ≡ xs → b.back ≡ [] → bytes ≡ xs
end b xs e f = rw (b.parts, e, f) (append-nil xs)

-- one value, and its bytes
pub single : {A : Type 0} (piece : A → List ℕ) (x : A) (xs : List A) (bytes : List ℕ) → xs ≡ x ∷ [] → bytes ≡ piece x → (bytes ≡ flat_map piece xs) × (length xs ≡ 1)
single piece x xs bytes e f = rw e (f ∙ sym (append-nil (piece x)), refl)

abbrev pub Ones : {A : Type 0} → (A → List ℕ) → Layout (List A) → Type 0
Ones {A} piece L = (xs : List A) (bytes : List ℕ) → L.Spells xs bytes → (bytes ≡ flat_map piece xs) × (length xs ≡ 1)

pub glue : {A : Type 0} (piece : A → List ℕ) (bytes f g : List ℕ) (xs ys : List A) → bytes ≡ f ++ g → f ≡ flat_map piece xs → g ≡ flat_map piece ys → bytes ≡ flat_map piece (xs ++ ys)
glue piece bytes f g xs ys p e q = rw (p, e, q) (sym (flat_map-append piece xs ys))

pub many_ones : {A : Type 0} (piece : A → List ℕ) (step : List A → Layout (List A)) → ((found : List A) → Ones piece (step found)) → (n : ℕ) (found ys : List A) (bytes : List ℕ) → (many n found step).Spells ys bytes
    → (xs : List A) × (ys ≡ found ++ xs) × (bytes ≡ flat_map piece xs) × (length xs ≡ n)
unfolding many
many_ones piece step each zero found ys bytes h = ([], h.is ∙ sym (append-nil found), h.none, refl)
many_ones piece step each (suc n) found ys bytes h =
    let first = each found h.value h.front h.first in
    let others = many_ones piece step each n (found ++ h.value) ys h.back h.second in
    (h.value ++ others.0, others.1 ∙ append_assoc found h.value others.0, glue piece bytes h.front h.back h.value others.0 h.parts first.0 others.2, omega (arith, first.1, others.3, length-append h.value others.0))

-- a count and so many parts
pub count_then : {A : Type 0} (piece : A → List ℕ) (step : List A → Layout (List A)) → ((found : List A) → Ones piece (step found)) → (ys : List A) (bytes : List ℕ) → (number w16 >>= λ n. many n [] step).Spells ys bytes → bytes ≡ u2 (length ys) ++ flat_map piece ys
count_then piece step each ys bytes h =
    let m = many_ones piece step each h.value [] ys h.back h.second in
    let n : h.value ≡ length ys = sym m.3 ∙ ap length (sym m.1) in
    join h (u2 (length ys)) (flat_map piece ys) (n16 h.value h.front h.first ∙ ap u2 n) (m.2 ∙ ap (flat_map piece) (sym m.1))

-- a test passed, the value is as it was read
pub checked_value : {A : Type 0} (b : Bool) (x y : A) → cond b (Some x) None ≡ Some y → x ≡ y
checked_value true x y e = cc
checked_value false x y e = absurd cc

pub t16 : (test : ℕ → Bool) (n : ℕ) (bytes : List ℕ) → Turned (number w16) (λ (x : ℕ). cond (test x) (Some x) None) n bytes → bytes ≡ u2 n
t16 test n bytes h = n16 h.value bytes h.first ∙ ap u2 (checked_value (test h.value) h.value n h.is)

pub t32 : (test : ℕ → Bool) (n : ℕ) (bytes : List ℕ) → Turned (number w32) (λ (x : ℕ). cond (test x) (Some x) None) n bytes → bytes ≡ u4 n
t32 test n bytes h = n32 h.value bytes h.first ∙ ap u4 (checked_value (test h.value) h.value n h.is)
