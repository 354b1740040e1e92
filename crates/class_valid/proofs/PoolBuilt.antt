-- The bytes of a valid pool spell it.
use Rattle.std.proofs.Common.{◌≡◌, ℕ, zero, suc, ◌+◌, ◌*◌, ◌/◌, ◌%◌, ◌<◌, ◌≤◌, ◌^◌, Bool, true, false, not, cond, List, [], ◌∷◌, ◌++◌, length, Option, Some, None, refl, sym, ap, subst, ◌∙◌, arith, append_assoc, append-nil, ltb, length-append, eqb}
use Rattle.std.specs.Prelude.{nat_lt, ◌==◌, FitsSigned, ℤ}
use Rattle.std.specs.Int.{w8, w16, w32, w64, to_be_bytes, cast_signed, cast_unsigned}
use Rattle.std.specs.List.{flat_map}
use Rattle.std.proofs.lemmas.Bool.{lt-ltb, le-ltb}
use Rattle.std.proofs.lemmas.Bool.Decides.{nat_tests}
use Rattle.std.proofs.lemmas.Int.{to_z-of_z}
use Rattle.std.proofs.Math.Facts.{Fits-of_z}
use Rattle.std.specs.Str.{IsUtf8}
use Rattle.class_pool.specs.Modified.{modified}
use Rattle.class_pool.specs.Units.{text_in}
use Rattle.class_pool.proofs.CallerLemmas.{text_again}
use Rattle.class_pool.specs.Entries.{bad}
use Rattle.class_pool.specs.declared.entry.Entry.{Entry}
use Rattle.class_pool.specs.declared.entry.Entry.TheVariants as entry
use Rattle.class_pool.specs.declared.fault.ClassFault.TheVariants as fault
use Rattle.class_grammar.specs.Layout.{Layout, number, run, pure, refused, choose, turned, checked, many, ◌>>=◌, yes, no, Turned}
use Rattle.class_grammar.specs.Grammar as grammar
use Rattle.class_grammar.specs.Bytes.{u2, u4, entry_bytes, pool_bytes}
use Rattle.class_grammar.specs.Valid.{Small, Fits4, IsFormed, IsPool}
use Rattle.class_valid.proofs.Built.{two, four, runs, behind, last, passes}

one_made : (made : ℕ → Entry) (n : ℕ) → Small n → (grammar.one made).Spells (made n ∷ []) (u2 n)
unfolding grammar.one
one_made made n lt = last (number w16) (λ n. made n ∷ []) n (u2 n) (two n lt)

four_made : (made : ℕ → Entry) (n : ℕ) → Fits4 n → (grammar.four made).Spells (made n ∷ []) (u4 n)
unfolding grammar.four
four_made made n lt = last (number w32) (λ n. made n ∷ []) n (u4 n) (four n lt)

pair_made : (a b : ℕ) → Small a → Small b → grammar.pair.Spells (a, b) (u2 a ++ u2 b)
unfolding grammar.pair
pair_made a b p q = behind (number w16) (λ a. number w16 >>= λ b. pure (a, b)) a (a, b) (u2 a) (u2 b) (two a p) (last (number w16) (λ b. (a, b)) b (u2 b) (two b q))

two_made : (made : ℕ → ℕ → Entry) (a b : ℕ) → Small a → Small b → (grammar.two made).Spells (made a b ∷ []) (u2 a ++ u2 b)
unfolding grammar.two
two_made made a b p q = last grammar.pair (λ ab. made ab.0 ab.1 ∷ []) (a, b) (u2 a ++ u2 b) (pair_made a b p q)

utf8_made : (i : ℕ) (t : List ℕ) → IsUtf8 t → Small (length (modified t)) → (grammar.utf8 i).Spells (entry.Utf8 t ∷ []) (u2 (length (modified t)) ++ modified t)
unfolding grammar.utf8
utf8_made i t u lt =
    behind (number w16) (λ len. turned (run len) text_in (λ at bytes. fault.Pool i) >>= λ text. pure (entry.Utf8 text ∷ [])) (length (modified t)) (entry.Utf8 t ∷ []) (u2 (length (modified t))) (modified t) (two (length (modified t)) lt)
    (last (turned (run (length (modified t))) text_in (λ at bytes. fault.Pool i)) (λ text. entry.Utf8 text ∷ []) t (modified t) (record { value = modified t; first = runs (modified t); is = text_again (modified t) t (record { is_text = u; bytes_are = refl }) }))

halves : (n : ℕ) → n / 0x1_0000_0000 * 0x1_0000_0000 + n % 0x1_0000_0000 ≡ n
halves n = omega arith

eight_made : (i count n : ℕ) → i + 1 < count → n < 2 ^ 64 → (grammar.eight i count).Spells n (u4 (n / 0x1_0000_0000) ++ u4 (n % 0x1_0000_0000))
unfolding grammar.eight
eight_made i count n lt fit =
    let high : ℕ = n / 0x1_0000_0000 in
    let low : ℕ = n % 0x1_0000_0000 in
    behind (number w32) (λ high. number w32 >>= λ low. choose (nat_lt (i + 1) count) (pure (high * 0x1_0000_0000 + low)) (refused (fault.Pool i))) high n (u4 high) (u4 low) (four high (omega (arith, fit)))
    (record { value = low; front = u4 low; back = []; parts = sym (append-nil (u4 low)); first = four low (omega arith); second = yes (lt-ltb (i + 1) count lt) (record { is = sym (halves n); none = refl }) })

long_made : (i count : ℕ) (z : ℤ) → i + 1 < count → FitsSigned w64 z → (grammar.long i count).Spells (entry.Long z ∷ entry.Gap ∷ []) (u4 (cast_unsigned w64 z / 0x1_0000_0000) ++ u4 (cast_unsigned w64 z % 0x1_0000_0000))
unfolding grammar.long
long_made i count z lt fit =
    let n : ℕ = cast_unsigned w64 z in
    subst (λ (w : ℤ). (grammar.long i count).Spells (entry.Long w ∷ entry.Gap ∷ []) (u4 (n / 0x1_0000_0000) ++ u4 (n % 0x1_0000_0000))) (to_z-of_z w64 z fit)
    (last (grammar.eight i count) (λ n. entry.Long (cast_signed w64 n) ∷ entry.Gap ∷ []) n (u4 (n / 0x1_0000_0000) ++ u4 (n % 0x1_0000_0000)) (eight_made i count n lt (omega (arith, Fits-of_z fit))))

double_made : (i count n : ℕ) → i + 1 < count → n < 2 ^ 64 → (grammar.double_of i count).Spells (entry.Double n ∷ entry.Gap ∷ []) (u4 (n / 0x1_0000_0000) ++ u4 (n % 0x1_0000_0000))
unfolding grammar.double_of
double_made i count n lt fit = last (grammar.eight i count) (λ n. entry.Double n ∷ entry.Gap ∷ []) n (u4 (n / 0x1_0000_0000) ++ u4 (n % 0x1_0000_0000)) (eight_made i count n lt fit)

tagged : (i count tag : ℕ) (xs : List Entry) (bytes : List ℕ) → tag < 256 → tag ∷ [] ≡ to_be_bytes w8 tag → (grammar.entry_of i count tag).Spells xs bytes → (grammar.entry_from i count).Spells xs (tag ∷ bytes)
unfolding grammar.entry_from
tagged i count tag xs bytes lt is h = behind (number w8) (grammar.entry_of i count) tag xs (tag ∷ []) bytes (record { fits = lt; bytes_are = is }) h

-- the entries at the front of a pool
abbrev Front : ℕ → ℕ → List Entry → List ℕ → Type 0
Front i count xs bytes = (grammar.entry_from i count).Spells xs bytes

f1 : (i count : ℕ) (t : List ℕ) → IsUtf8 t → Small (length (modified t)) → Front i count (entry.Utf8 t ∷ []) (entry_bytes (entry.Utf8 t))
unfolding grammar.entry_with
f1 i count t u lt = tagged i count 1 (entry.Utf8 t ∷ []) (u2 (length (modified t)) ++ modified t) (omega arith) refl (utf8_made i t u lt)

f3 : (i count n : ℕ) → Fits4 n → Front i count (entry.Integer n ∷ []) (entry_bytes (entry.Integer n))
unfolding grammar.entry_with
f3 i count n lt = tagged i count 3 (entry.Integer n ∷ []) (u4 n) (omega arith) refl (four_made entry.Integer n lt)

f4 : (i count n : ℕ) → Fits4 n → Front i count (entry.Float n ∷ []) (entry_bytes (entry.Float n))
unfolding grammar.entry_with
f4 i count n lt = tagged i count 4 (entry.Float n ∷ []) (u4 n) (omega arith) refl (four_made entry.Float n lt)

f5 : (i count : ℕ) (z : ℤ) → i + 1 < count → FitsSigned w64 z → Front i count (entry.Long z ∷ entry.Gap ∷ []) (entry_bytes (entry.Long z))
unfolding grammar.entry_with
f5 i count z lt fit = tagged i count 5 (entry.Long z ∷ entry.Gap ∷ []) (u4 (cast_unsigned w64 z / 0x1_0000_0000) ++ u4 (cast_unsigned w64 z % 0x1_0000_0000)) (omega arith) refl (long_made i count z lt fit)

f6 : (i count n : ℕ) → i + 1 < count → n < 2 ^ 64 → Front i count (entry.Double n ∷ entry.Gap ∷ []) (entry_bytes (entry.Double n))
unfolding grammar.entry_with
f6 i count n lt fit = tagged i count 6 (entry.Double n ∷ entry.Gap ∷ []) (u4 (n / 0x1_0000_0000) ++ u4 (n % 0x1_0000_0000)) (omega arith) refl (double_made i count n lt fit)

f7 : (i count n : ℕ) → Small n → Front i count (entry.Class n ∷ []) (entry_bytes (entry.Class n))
unfolding grammar.entry_with
f7 i count n lt = tagged i count 7 (entry.Class n ∷ []) (u2 n) (omega arith) refl (one_made entry.Class n lt)

f8 : (i count n : ℕ) → Small n → Front i count (entry.Str n ∷ []) (entry_bytes (entry.Str n))
unfolding grammar.entry_with
f8 i count n lt = tagged i count 8 (entry.Str n ∷ []) (u2 n) (omega arith) refl (one_made entry.Str n lt)

f9 : (i count a b : ℕ) → Small a → Small b → Front i count (entry.Field a b ∷ []) (entry_bytes (entry.Field a b))
unfolding grammar.entry_with
f9 i count a b p q = tagged i count 9 (entry.Field a b ∷ []) (u2 a ++ u2 b) (omega arith) refl (two_made entry.Field a b p q)

f10 : (i count a b : ℕ) → Small a → Small b → Front i count (entry.Method a b ∷ []) (entry_bytes (entry.Method a b))
unfolding grammar.entry_with
f10 i count a b p q = tagged i count 10 (entry.Method a b ∷ []) (u2 a ++ u2 b) (omega arith) refl (two_made entry.Method a b p q)

f11 : (i count a b : ℕ) → Small a → Small b → Front i count (entry.Interface a b ∷ []) (entry_bytes (entry.Interface a b))
unfolding grammar.entry_with
f11 i count a b p q = tagged i count 11 (entry.Interface a b ∷ []) (u2 a ++ u2 b) (omega arith) refl (two_made entry.Interface a b p q)

f12 : (i count a b : ℕ) → Small a → Small b → Front i count (entry.NameType a b ∷ []) (entry_bytes (entry.NameType a b))
unfolding grammar.entry_with
f12 i count a b p q = tagged i count 12 (entry.NameType a b ∷ []) (u2 a ++ u2 b) (omega arith) refl (two_made entry.NameType a b p q)

-- ---- turn by turn

Rest : ℕ → ℕ → List Entry → List Entry → Type 0
Rest count n found es = (many n found (grammar.next_entry count)).Spells (found ++ es) (flat_map entry_bytes es)

step : (count n : ℕ) (found xs es : List Entry) (bytes : List ℕ) → length found + 1 < count → Front (length found + 1) count xs bytes → (many n (found ++ xs) (grammar.next_entry count)).Spells ((found ++ xs) ++ es) (flat_map entry_bytes es) →
    (many (suc n) found (grammar.next_entry count)).Spells (found ++ (xs ++ es)) (bytes ++ flat_map entry_bytes es)
unfolding many grammar.next_entry
step count n found xs es bytes lt front rest =
    behind (grammar.next_entry count found) (λ ys. many n (found ++ ys) (grammar.next_entry count)) xs (found ++ (xs ++ es)) bytes (flat_map entry_bytes es) (yes (lt-ltb (length found + 1) count lt) front)
    (subst (λ (w : List Entry). (many n (found ++ xs) (grammar.next_entry count)).Spells w (flat_map entry_bytes es)) (append_assoc found xs es) rest)

idle : (count n : ℕ) (found : List Entry) → count ≤ length found + 1 → (many n found (grammar.next_entry count)).Spells (found ++ []) [] → (many (suc n) found (grammar.next_entry count)).Spells (found ++ []) []
unfolding many grammar.next_entry
idle count n found le rest =
    behind (grammar.next_entry count found) (λ ys. many n (found ++ ys) (grammar.next_entry count)) [] (found ++ []) [] [] (no (le-ltb (length found + 1) count le) (record { is = refl; none = refl }))
    (subst (λ (w : List Entry). (many n w (grammar.next_entry count)).Spells (found ++ []) []) (sym (append-nil found)) rest)

turns : (count n : ℕ) (found es : List Entry) → IsFormed es → length found + length es + 1 ≡ count → length es ≤ n → (many n found (grammar.next_entry count)).Spells (found ++ es) (flat_map entry_bytes es)
unfolding many
turns count zero found [] h e le = record { is = append-nil found; none = refl }
turns count zero found (x ∷ es) h e le = absurd (omega (arith, le))
turns count (suc n) found [] h e le = idle count n found (omega (arith, e)) (turns count n found [] tt e (omega arith))
turns count (suc n) found (entry.Utf8 t ∷ es) h e le = step count n found (entry.Utf8 t ∷ []) es _ (omega (arith, e)) (f1 _ count t h.0.0 h.0.1) (turns count n (found ++ entry.Utf8 t ∷ []) es h.1 (omega (arith, e, length-append found (entry.Utf8 t ∷ []))) (omega (arith, le)))
turns count (suc n) found (entry.Integer k ∷ es) h e le = step count n found (entry.Integer k ∷ []) es _ (omega (arith, e)) (f3 _ count k h.0) (turns count n (found ++ entry.Integer k ∷ []) es h.1 (omega (arith, e, length-append found (entry.Integer k ∷ []))) (omega (arith, le)))
turns count (suc n) found (entry.Float k ∷ es) h e le = step count n found (entry.Float k ∷ []) es _ (omega (arith, e)) (f4 _ count k h.0) (turns count n (found ++ entry.Float k ∷ []) es h.1 (omega (arith, e, length-append found (entry.Float k ∷ []))) (omega (arith, le)))
turns count (suc n) found (entry.Class k ∷ es) h e le = step count n found (entry.Class k ∷ []) es _ (omega (arith, e)) (f7 _ count k h.0) (turns count n (found ++ entry.Class k ∷ []) es h.1 (omega (arith, e, length-append found (entry.Class k ∷ []))) (omega (arith, le)))
turns count (suc n) found (entry.Str k ∷ es) h e le = step count n found (entry.Str k ∷ []) es _ (omega (arith, e)) (f8 _ count k h.0) (turns count n (found ++ entry.Str k ∷ []) es h.1 (omega (arith, e, length-append found (entry.Str k ∷ []))) (omega (arith, le)))
turns count (suc n) found (entry.Field a b ∷ es) h e le = step count n found (entry.Field a b ∷ []) es _ (omega (arith, e)) (f9 _ count a b h.0.0 h.0.1) (turns count n (found ++ entry.Field a b ∷ []) es h.1 (omega (arith, e, length-append found (entry.Field a b ∷ []))) (omega (arith, le)))
turns count (suc n) found (entry.Method a b ∷ es) h e le = step count n found (entry.Method a b ∷ []) es _ (omega (arith, e)) (f10 _ count a b h.0.0 h.0.1) (turns count n (found ++ entry.Method a b ∷ []) es h.1 (omega (arith, e, length-append found (entry.Method a b ∷ []))) (omega (arith, le)))
turns count (suc n) found (entry.Interface a b ∷ es) h e le = step count n found (entry.Interface a b ∷ []) es _ (omega (arith, e)) (f11 _ count a b h.0.0 h.0.1) (turns count n (found ++ entry.Interface a b ∷ []) es h.1 (omega (arith, e, length-append found (entry.Interface a b ∷ []))) (omega (arith, le)))
turns count (suc n) found (entry.NameType a b ∷ es) h e le = step count n found (entry.NameType a b ∷ []) es _ (omega (arith, e)) (f12 _ count a b h.0.0 h.0.1) (turns count n (found ++ entry.NameType a b ∷ []) es h.1 (omega (arith, e, length-append found (entry.NameType a b ∷ []))) (omega (arith, le)))
turns count (suc n) found (entry.Long z ∷ entry.Gap ∷ es) h e le =
    step count n found (entry.Long z ∷ entry.Gap ∷ []) es _ (omega (arith, e)) (f5 _ count z (omega (arith, e)) h.0) (turns count n (found ++ entry.Long z ∷ entry.Gap ∷ []) es h.1 (omega (arith, e, length-append found (entry.Long z ∷ entry.Gap ∷ []))) (omega (arith, le)))
turns count (suc n) found (entry.Double k ∷ entry.Gap ∷ es) h e le =
    step count n found (entry.Double k ∷ entry.Gap ∷ []) es _ (omega (arith, e)) (f6 _ count k (omega (arith, e)) h.0) (turns count n (found ++ entry.Double k ∷ entry.Gap ∷ []) es h.1 (omega (arith, e, length-append found (entry.Double k ∷ entry.Gap ∷ []))) (omega (arith, le)))
turns count (suc n) found _ h e le = absurd h

is_zero : (n : ℕ) → n ≡ 0 → (n == 0) ≡ true
is_zero n e = rw e refl

not_zero : (n : ℕ) → not (n + 1 == 0) ≡ true
not_zero n = grind (arith, nat_tests)

pub pool_spelled : (es : List Entry) → IsPool es → grammar.pool.Spells es (pool_bytes es)
unfolding grammar.pool
pool_spelled es h =
    let count : ℕ = length es + 1 in
    behind (checked (number w16) (λ n. not (n == 0)) (λ at n. fault.Pool 0)) (λ count. checked (many count [] (grammar.next_entry count)) (λ es. bad es == 0) (λ at es. fault.Pool (bad es))) count es (u2 count) (flat_map entry_bytes es)
    (passes (number w16) (λ n. not (n == 0)) (λ at n. fault.Pool 0) count (u2 count) (two count (omega (arith, h.few))) (not_zero (length es)))
    (passes (many count [] (grammar.next_entry count)) (λ es. bad es == 0) (λ at es. fault.Pool (bad es)) es (flat_map entry_bytes es) (turns count count [] es h.formed (omega arith) (omega arith)) (is_zero (bad es) h.refer))
