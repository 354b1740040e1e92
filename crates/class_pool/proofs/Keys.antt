-- Keys tell apart what entries show.
use Rattle.std.proofs.Common.{◌≡◌, ℕ, ◌<◌, ◌^◌, cond, eqb, List, [], ◌∷◌, ◌++◌, length, take, drop, refl, sym, ap, ◌∙◌, arith, append_assoc}
use Rattle.std.specs.Prelude.{ℤ, FitsSigned}
use Rattle.std.specs.Int.{w32, w64, to_be_bytes, from_be_bytes, cast_unsigned, cast_signed}
use Rattle.std.proofs.lemmas.Int.{to_z-of_z}
use Rattle.std.proofs.lemmas.List.{take_at, drop_at}
use Rattle.std.proofs.lemmas.Nat.{from_be_bytes-to_be_bytes_4, from_be_bytes-to_be_bytes_8}
use Rattle.std.proofs.Math.Facts.{Fits-of_z}
use Rattle.class_pool.specs.declared.shown.Shown.{Shown}
use Rattle.class_pool.specs.declared.shown.Shown.TheVariants as shown
use Rattle.class_pool.specs.Index.{sized, key, IsSound}

-- the text at the front of the bytes, behind its length, and what follows it
abbrev first : List ℕ → List ℕ
first bytes = take (from_be_bytes w64 (take 8 bytes)) (drop 8 bytes)

abbrev behind : List ℕ → List ℕ
behind bytes = drop (from_be_bytes w64 (take 8 bytes)) (drop 8 bytes)

-- what has a key; a long stands last
abbrev unkey : List ℕ → Shown
unkey [] = shown.Text []
unkey (b ∷ rest) =
    cond (eqb b 1) (shown.Text rest) (cond (eqb b 7) (shown.Class rest) (cond (eqb b 8) (shown.Str rest) (cond (eqb b 12) (shown.NameType (first rest) (behind rest))
    (cond (eqb b 9) (shown.Field (first rest) (first (behind rest)) (behind (behind rest))) (cond (eqb b 10) (shown.Method (first rest) (first (behind rest)) (behind (behind rest)))
    (cond (eqb b 3) (shown.Integer (from_be_bytes w32 rest)) (shown.Long (cast_signed w64 (from_be_bytes w64 rest)))))))))

whole : (t rest : List ℕ) → sized t ++ rest ≡ to_be_bytes w64 (length t) ++ (t ++ rest)
whole t rest = append_assoc (to_be_bytes w64 (length t)) t rest

size_at : (t rest : List ℕ) → length t < 2 ^ 64 → from_be_bytes w64 (take 8 (sized t ++ rest)) ≡ length t
size_at t rest lt =
    ap (λ (bytes : List ℕ). from_be_bytes w64 (take 8 bytes)) (whole t rest) ∙ ap (from_be_bytes w64) (take_at (to_be_bytes w64 (length t)) (t ++ rest) 8 refl) ∙ from_be_bytes-to_be_bytes_8 (length t) lt

left_at : (t rest : List ℕ) → drop 8 (sized t ++ rest) ≡ t ++ rest
left_at t rest = ap (drop 8) (whole t rest) ∙ drop_at (to_be_bytes w64 (length t)) (t ++ rest) 8 refl

first_is : (t rest : List ℕ) → length t < 2 ^ 64 → first (sized t ++ rest) ≡ t
first_is t rest lt =
    ap (λ (n : ℕ). take n (drop 8 (sized t ++ rest))) (size_at t rest lt) ∙ ap (take (length t)) (left_at t rest) ∙ take_at t rest (length t) refl

behind_is : (t rest : List ℕ) → length t < 2 ^ 64 → behind (sized t ++ rest) ≡ rest
behind_is t rest lt =
    ap (λ (n : ℕ). drop n (drop 8 (sized t ++ rest))) (size_at t rest lt) ∙ ap (drop (length t)) (left_at t rest) ∙ drop_at t rest (length t) refl

bits_fit : (z : ℤ) → FitsSigned w64 z → cast_unsigned w64 z < 2 ^ 64
bits_fit z h = omega (arith, Fits-of_z h)

long_back : (z : ℤ) → FitsSigned w64 z → cast_signed w64 (from_be_bytes w64 (to_be_bytes w64 (cast_unsigned w64 z))) ≡ z
long_back z h = ap (cast_signed w64) (from_be_bytes-to_be_bytes_8 (cast_unsigned w64 z) (bits_fit z h)) ∙ to_z-of_z w64 z h

two_back : (made : List ℕ → List ℕ → Shown) (a b : List ℕ) → length a < 2 ^ 64 → made (first (sized a ++ b)) (behind (sized a ++ b)) ≡ made a b
two_back made a b h = ap (λ (x : List ℕ). made x (behind (sized a ++ b))) (first_is a b h) ∙ ap (made a) (behind_is a b h)

three_back : (made : List ℕ → List ℕ → List ℕ → Shown) (c a b : List ℕ) → length c < 2 ^ 64 → length a < 2 ^ 64
    → made (first (sized c ++ (sized a ++ b))) (first (behind (sized c ++ (sized a ++ b)))) (behind (behind (sized c ++ (sized a ++ b)))) ≡ made c a b
three_back made c a b g h =
    ap (λ (x : List ℕ). made x (first (behind (sized c ++ (sized a ++ b)))) (behind (behind (sized c ++ (sized a ++ b))))) (first_is c (sized a ++ b) g)
    ∙ ap (λ (x : List ℕ). made c (first x) (behind x)) (behind_is c (sized a ++ b) g) ∙ two_back (made c) a b h

back : (w : Shown) → IsSound w → unkey (key w) ≡ w
back (shown.Text t) h = refl
back (shown.Integer n) h = ap shown.Integer (from_be_bytes-to_be_bytes_4 n h)
back (shown.Long z) h = ap shown.Long (long_back z h)
back (shown.Class t) h = refl
back (shown.Str t) h = refl
back (shown.NameType a b) h = two_back shown.NameType a b h
back (shown.Field c a b) h = three_back shown.Field c a b h.0 h.1
back (shown.Method c a b) h = three_back shown.Method c a b h.0 h.1

-- What has one key is one.
pub one_key : (w v : Shown) → IsSound w → IsSound v → key w ≡ key v → w ≡ v
one_key w v p q e = sym (back w p) ∙ ap unkey e ∙ back v q
