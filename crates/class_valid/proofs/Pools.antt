-- The bytes that spell a pool.
use Rattle.std.proofs.Common.{◌≡◌, ℕ, zero, suc, ◌+◌, ◌-◌, ◌*◌, ◌/◌, ◌%◌, ◌<◌, ◌≤◌, ◌^◌, min, not, Bool, true, false, cond, eqb, List, [], ◌∷◌, ◌++◌, length, Some, None, refl, sym, ap, ◌∙◌, arith, append_assoc, length-append}
use Rattle.std.specs.Int.{w8, w64, cast_signed}
use Rattle.std.specs.List.{flat_map}
use Rattle.std.proofs.lemmas.Bool.{eqb-true, ltb-true, ltb-false}
use Rattle.std.proofs.lemmas.List.{append-nil}
use Rattle.std.proofs.lemmas.Int.{of_z-to_z}
use Rattle.class_pool.specs.Modified.{modified}
use Rattle.class_pool.specs.Tags.{tag_of, byte_of}
use Rattle.class_pool.specs.declared.tag.Tag.{Tag}
use Rattle.class_pool.specs.declared.tag.Tag.TheVariants as tag
use Rattle.class_pool.proofs.CallerLemmas.{text_takes, tag_only}
use Rattle.std.specs.Prelude.{Option}
use Rattle.class_pool.specs.declared.entry.Entry.{Entry}
use Rattle.class_pool.specs.declared.entry.Entry.TheVariants as entry
use Rattle.class_pool.specs.declared.class.Class.{Class}
use Rattle.class_pool.specs.declared.fault.ClassFault.{ClassFault}
use Rattle.class_grammar.specs.Layout.{Layout, SpellsNumber, Chosen, yes, no, pure, refused, many}
use Rattle.class_grammar.specs.Grammar.{four, eight, double_of, pool, next_entry, entry_from, entry_with, utf8, long, one, two, pair}
use Rattle.class_grammar.specs.Bytes.{u2, u4, entry_bytes, pool_bytes}
use Rattle.class_valid.proofs.Joined.{n16, n32, join, end, glue, checked_value, t16}

-- a tag, and what stands behind it
abbrev Tagged : ℕ → Layout (List Entry) → Type 0
Tagged tag L = (xs : List Entry) (bytes : List ℕ) → L.Spells xs bytes → tag ∷ [] ++ bytes ≡ flat_map entry_bytes xs

tagged : (tag : ℕ) (x : Entry) (xs : List Entry) (bytes body : List ℕ) → xs ≡ x ∷ [] → bytes ≡ body → entry_bytes x ≡ tag ∷ [] ++ body → tag ∷ [] ++ bytes ≡ flat_map entry_bytes xs
tagged tag x xs bytes body e f g = rw (e, f, g) (sym (append-nil (tag ∷ [] ++ body)))

utf8_tagged : (i : ℕ) → Tagged 1 (utf8 i)
unfolding utf8
utf8_tagged i xs bytes h =
    let b = h.second in
    let t = text_takes b.first.value b.value b.first.is in
    let run_is : b.front ≡ modified b.value = b.first.first.bytes_are ∙ t.bytes_are in
    let len : h.value ≡ length (modified b.value) = sym b.first.first.len_is ∙ ap length t.bytes_are in
    tagged 1 (entry.Utf8 b.value) xs bytes (u2 (length (modified b.value)) ++ modified b.value) b.second.is
    (join h (u2 (length (modified b.value))) (modified b.value) (n16 h.value h.front h.first ∙ ap u2 len) (end b (modified b.value) run_is b.second.none)) refl

one_tagged : (tag : ℕ) (made : ℕ → Entry) → ((n : ℕ) → entry_bytes (made n) ≡ tag ∷ [] ++ u2 n) → Tagged tag (one made)
unfolding one
one_tagged tag made is xs bytes h = tagged tag (made h.value) xs bytes (u2 h.value) h.second.is (end h (u2 h.value) (n16 h.value h.front h.first) h.second.none) (is h.value)

pair_spelled : (ab : ℕ × ℕ) (bytes : List ℕ) → pair.Spells ab bytes → bytes ≡ u2 ab.0 ++ u2 ab.1
unfolding pair
pair_spelled ab bytes h =
    let b = h.second in
    join h (u2 h.value) (u2 b.value) (n16 h.value h.front h.first) (end b (u2 b.value) (n16 b.value b.front b.first) b.second.none) ∙ ap (λ (r : ℕ × ℕ). u2 r.0 ++ u2 r.1) (sym b.second.is)

two_tagged : (tag : ℕ) (made : ℕ → ℕ → Entry) → ((a b : ℕ) → entry_bytes (made a b) ≡ tag ∷ [] ++ (u2 a ++ u2 b)) → Tagged tag (two made)
unfolding two
two_tagged tag made is xs bytes h = tagged tag (made h.value.0 h.value.1) xs bytes (u2 h.value.0 ++ u2 h.value.1) h.second.is (end h (u2 h.value.0 ++ u2 h.value.1) (pair_spelled h.value h.front h.first) h.second.none) (is h.value.0 h.value.1)

four_tagged : (tag : ℕ) (made : ℕ → Entry) → ((n : ℕ) → entry_bytes (made n) ≡ tag ∷ [] ++ u4 n) → Tagged tag (four made)
unfolding four
four_tagged tag made is xs bytes h = tagged tag (made h.value) xs bytes (u4 h.value) h.second.is (end h (u4 h.value) (n32 h.value h.front h.first) h.second.none) (is h.value)

eight_end : (high low : ℕ) (b : Bool) (n : ℕ) (bytes : List ℕ) (f : ClassFault) → Chosen b (pure (high * 0x1_0000_0000 + low)) (refused f) n bytes → (n ≡ high * 0x1_0000_0000 + low) × (bytes ≡ []) × (b ≡ true)
eight_end high low b n bytes f (yes e s) = (s.is, s.none, e)
eight_end high low b n bytes f (no e s) = absurd s

pub eight_spelled : (i count n : ℕ) (bytes : List ℕ) → (eight i count).Spells n bytes → (bytes ≡ u4 (n / 0x1_0000_0000) ++ u4 (n % 0x1_0000_0000)) × (n < 2 ^ 64) × (i + 1 < count)
unfolding eight
eight_spelled i count n bytes h =
    let b = h.second in
    let e = eight_end h.value b.value _ n b.back _ b.second in
    let fits : n < 2 ^ 64 = omega (arith, e.0, h.first.fits, b.first.fits) in
    let high : h.value ≡ n / 0x1_0000_0000 = omega (arith, e.0, b.first.fits) in
    let low : b.value ≡ n % 0x1_0000_0000 = omega (arith, e.0, b.first.fits) in
    (join h (u4 (n / 0x1_0000_0000)) (u4 (n % 0x1_0000_0000)) (n32 h.value h.front h.first ∙ ap u4 high) (end b (u4 (n % 0x1_0000_0000)) (n32 b.value b.front b.first ∙ ap u4 low) e.1), fits, ltb-true (i + 1) count e.2)

eight_made : (tag n : ℕ) (x : Entry) (xs : List Entry) (bytes : List ℕ) → xs ≡ x ∷ entry.Gap ∷ [] → bytes ≡ u4 (n / 0x1_0000_0000) ++ u4 (n % 0x1_0000_0000) → entry_bytes x ≡ tag ∷ [] ++ (u4 (n / 0x1_0000_0000) ++ u4 (n % 0x1_0000_0000)) → tag ∷ [] ++ bytes ≡ flat_map entry_bytes xs
eight_made tag n x xs bytes e f g = rw (e, f, g) (sym (append-nil (tag ∷ [] ++ (u4 (n / 0x1_0000_0000) ++ u4 (n % 0x1_0000_0000)))))

long_bytes : (n : ℕ) → n < 2 ^ 64 → entry_bytes (entry.Long (cast_signed w64 n)) ≡ 5 ∷ [] ++ (u4 (n / 0x1_0000_0000) ++ u4 (n % 0x1_0000_0000))
long_bytes n fits = ap (λ (k : ℕ). 5 ∷ [] ++ (u4 (k / 0x1_0000_0000) ++ u4 (k % 0x1_0000_0000))) (of_z-to_z w64 n fits)

long_tagged : (i count : ℕ) → Tagged 5 (long i count)
unfolding long
long_tagged i count xs bytes h =
    let g = eight_spelled i count h.value h.front h.first in
    eight_made 5 h.value (entry.Long (cast_signed w64 h.value)) xs bytes h.second.is (end h (u4 (h.value / 0x1_0000_0000) ++ u4 (h.value % 0x1_0000_0000)) g.0 h.second.none) (long_bytes h.value g.1)

double_tagged : (i count : ℕ) → Tagged 6 (double_of i count)
unfolding double_of
double_tagged i count xs bytes h =
    let g = eight_spelled i count h.value h.front h.first in
    eight_made 6 h.value (entry.Double h.value) xs bytes h.second.is (end h (u4 (h.value / 0x1_0000_0000) ++ u4 (h.value % 0x1_0000_0000)) g.0 h.second.none) refl

at_tag : (t : Tag) (byte : ℕ) (xs : List Entry) (bytes : List ℕ) → tag_of byte ≡ Some t → byte_of t ∷ [] ++ bytes ≡ flat_map entry_bytes xs → byte ∷ [] ++ bytes ≡ flat_map entry_bytes xs
at_tag t byte xs bytes e h = ap (λ (k : ℕ). k ∷ [] ++ bytes) (sym (tag_only byte t e)) ∙ h

tag_by : (i count byte : ℕ) (t : Option Tag) (xs : List Entry) (bytes : List ℕ) → tag_of byte ≡ t → (entry_with i count t).Spells xs bytes → byte ∷ [] ++ bytes ≡ flat_map entry_bytes xs
unfolding entry_with
tag_by i count byte None xs bytes e h = absurd h
tag_by i count byte (Some tag.Utf8) xs bytes e h = at_tag tag.Utf8 byte xs bytes e (utf8_tagged i xs bytes h)
tag_by i count byte (Some tag.Integer) xs bytes e h = at_tag tag.Integer byte xs bytes e (four_tagged 3 entry.Integer (λ n. refl) xs bytes h)
tag_by i count byte (Some tag.Float) xs bytes e h = at_tag tag.Float byte xs bytes e (four_tagged 4 entry.Float (λ n. refl) xs bytes h)
tag_by i count byte (Some tag.Long) xs bytes e h = at_tag tag.Long byte xs bytes e (long_tagged i count xs bytes h)
tag_by i count byte (Some tag.Double) xs bytes e h = at_tag tag.Double byte xs bytes e (double_tagged i count xs bytes h)
tag_by i count byte (Some tag.Class) xs bytes e h = at_tag tag.Class byte xs bytes e (one_tagged 7 entry.Class (λ n. refl) xs bytes h)
tag_by i count byte (Some tag.Str) xs bytes e h = at_tag tag.Str byte xs bytes e (one_tagged 8 entry.Str (λ n. refl) xs bytes h)
tag_by i count byte (Some tag.Field) xs bytes e h = at_tag tag.Field byte xs bytes e (two_tagged 9 entry.Field (λ a b. refl) xs bytes h)
tag_by i count byte (Some tag.Method) xs bytes e h = at_tag tag.Method byte xs bytes e (two_tagged 10 entry.Method (λ a b. refl) xs bytes h)
tag_by i count byte (Some tag.Interface) xs bytes e h = at_tag tag.Interface byte xs bytes e (two_tagged 11 entry.Interface (λ a b. refl) xs bytes h)
tag_by i count byte (Some tag.NameType) xs bytes e h = at_tag tag.NameType byte xs bytes e (two_tagged 12 entry.NameType (λ a b. refl) xs bytes h)

n8 : (n : ℕ) (bytes : List ℕ) → SpellsNumber w8 n bytes → bytes ≡ n ∷ []
n8 n bytes s = let k : n % 256 ≡ n = omega (arith, s.fits) in s.bytes_are ∙ ap (λ (b : ℕ). b ∷ []) k

entry_spelled : (i count : ℕ) (xs : List Entry) (bytes : List ℕ) → (entry_from i count).Spells xs bytes → bytes ≡ flat_map entry_bytes xs
unfolding entry_from
entry_spelled i count xs bytes h = join h (h.value ∷ []) h.back (n8 h.value h.front h.first) refl ∙ tag_by i count h.value (tag_of h.value) xs h.back refl h.second

-- a turn over the entries, and how many there are behind it
next_spelled : (count : ℕ) (found xs : List Entry) (bytes : List ℕ) → (next_entry count found).Spells xs bytes → bytes ≡ flat_map entry_bytes xs
unfolding next_entry
next_spelled count found xs bytes (yes e s) = entry_spelled _ count xs bytes s
next_spelled count found xs bytes (no e s) = rw (s.is, s.none) refl

-- how many entries a turn gives
abbrev Some_of : ℕ → ℕ → List Entry → Type 0
Some_of i count xs = (1 ≤ length xs) × (i + length xs ≤ count)

one_of : (i count : ℕ) (x : Entry) (xs : List Entry) → i < count → xs ≡ x ∷ [] → Some_of i count xs
one_of i count x xs lt e = let n : length xs ≡ 1 = rw e refl in (omega (arith, n), omega (arith, n, lt))

two_of : (i count : ℕ) (x : Entry) (xs : List Entry) → i + 1 < count → xs ≡ x ∷ entry.Gap ∷ [] → Some_of i count xs
two_of i count x xs lt e = let n : length xs ≡ 2 = rw e refl in (omega (arith, n), omega (arith, n, lt))

utf8_len : (i count : ℕ) (xs : List Entry) (bytes : List ℕ) → i < count → (utf8 i).Spells xs bytes → Some_of i count xs
unfolding utf8
utf8_len i count xs bytes lt h = one_of i count _ xs lt h.second.second.is

four_len : (i count : ℕ) (made : ℕ → Entry) (xs : List Entry) (bytes : List ℕ) → i < count → (four made).Spells xs bytes → Some_of i count xs
unfolding four
four_len i count made xs bytes lt h = one_of i count (made h.value) xs lt h.second.is

long_len : (i count : ℕ) (xs : List Entry) (bytes : List ℕ) → (long i count).Spells xs bytes → Some_of i count xs
unfolding long
long_len i count xs bytes h = two_of i count (entry.Long (cast_signed w64 h.value)) xs (eight_spelled i count h.value h.front h.first).2 h.second.is

double_len : (i count : ℕ) (xs : List Entry) (bytes : List ℕ) → (double_of i count).Spells xs bytes → Some_of i count xs
unfolding double_of
double_len i count xs bytes h = two_of i count (entry.Double h.value) xs (eight_spelled i count h.value h.front h.first).2 h.second.is

one_len : (i count : ℕ) (made : ℕ → Entry) (xs : List Entry) (bytes : List ℕ) → i < count → (one made).Spells xs bytes → Some_of i count xs
unfolding one
one_len i count made xs bytes lt h = one_of i count (made h.value) xs lt h.second.is

two_len : (i count : ℕ) (made : ℕ → ℕ → Entry) (xs : List Entry) (bytes : List ℕ) → i < count → (two made).Spells xs bytes → Some_of i count xs
unfolding two
two_len i count made xs bytes lt h = one_of i count (made h.value.0 h.value.1) xs lt h.second.is

tag_len : (i count : ℕ) (t : Option Tag) (xs : List Entry) (bytes : List ℕ) → i < count → (entry_with i count t).Spells xs bytes → Some_of i count xs
unfolding entry_with
tag_len i count None xs bytes lt h = absurd h
tag_len i count (Some tag.Utf8) xs bytes lt h = utf8_len i count xs bytes lt h
tag_len i count (Some tag.Integer) xs bytes lt h = four_len i count _ xs bytes lt h
tag_len i count (Some tag.Float) xs bytes lt h = four_len i count _ xs bytes lt h
tag_len i count (Some tag.Long) xs bytes lt h = long_len i count xs bytes h
tag_len i count (Some tag.Double) xs bytes lt h = double_len i count xs bytes h
tag_len i count (Some tag.Class) xs bytes lt h = one_len i count _ xs bytes lt h
tag_len i count (Some tag.Str) xs bytes lt h = one_len i count _ xs bytes lt h
tag_len i count (Some tag.Field) xs bytes lt h = two_len i count _ xs bytes lt h
tag_len i count (Some tag.Method) xs bytes lt h = two_len i count _ xs bytes lt h
tag_len i count (Some tag.Interface) xs bytes lt h = two_len i count _ xs bytes lt h
tag_len i count (Some tag.NameType) xs bytes lt h = two_len i count _ xs bytes lt h

entry_len : (i count : ℕ) (xs : List Entry) (bytes : List ℕ) → i < count → (entry_from i count).Spells xs bytes → Some_of i count xs
unfolding entry_from
entry_len i count xs bytes lt h = tag_len i count (tag_of h.value) xs h.back lt h.second

-- a turn goes on towards the count, and stays there
abbrev Nearer : ℕ → ℕ → ℕ → Type 0
Nearer count before after = (after + 1 ≤ count) × (min (before + 1) (count - 1) ≤ after)

next_len : (count : ℕ) (found xs : List Entry) (bytes : List ℕ) → length found + 1 ≤ count → (next_entry count found).Spells xs bytes → Nearer count (length found) (length found + length xs)
unfolding next_entry
next_len count found xs bytes le (yes e s) =
    let lt = ltb-true (length found + 1) count e in
    let n = entry_len (length found + 1) count xs bytes lt s in
    (omega (arith, n), omega (arith, n))
next_len count found xs bytes le (no e s) =
    let ge = ltb-false (length found + 1) count e in
    let n : length xs ≡ 0 = rw s.is refl in
    (omega (arith, n, le), omega (arith, n, ge))

pub entries_law : (count n : ℕ) (found ys : List Entry) (bytes : List ℕ) → length found + 1 ≤ count → count ≤ length found + 1 + n → (many n found (next_entry count)).Spells ys bytes
    → (xs : List Entry) × (ys ≡ found ++ xs) × (bytes ≡ flat_map entry_bytes xs) × (length ys + 1 ≡ count)
unfolding many
entries_law count zero found ys bytes le ge h = let n : length ys ≡ length found = ap length h.is in ([], h.is ∙ sym (append-nil found), h.none, omega (arith, n, le, ge))
entries_law count (suc n) found ys bytes le ge h =
    let first = next_spelled count found h.value h.front h.first in
    let near = next_len count found h.value h.front le h.first in
    let len = length-append found h.value in
    let others = entries_law count n (found ++ h.value) ys h.back (omega (arith, near, len)) (omega (arith, near, len, ge, le)) h.second in
    (h.value ++ others.0, others.1 ∙ append_assoc found h.value others.0, glue entry_bytes bytes h.front h.back h.value others.0 h.parts first others.2, others.3)

pub not_zero : (n : ℕ) → not (eqb n 0) ≡ true → 1 ≤ n
not_zero zero e = absurd cc
not_zero (suc n) e = omega arith

pub passed_test : {A : Type 0} (b : Bool) (x y : A) → cond b (Some x) None ≡ Some y → b ≡ true
passed_test true x y e = refl
passed_test false x y e = absurd cc

pub pool_spelled : (es : List Entry) (bytes : List ℕ) → pool.Spells es bytes → bytes ≡ pool_bytes es
unfolding pool
pool_spelled es bytes h =
    let same : h.second.value ≡ es = checked_value _ h.second.value es h.second.is in
    let some : 1 ≤ h.value = not_zero h.value (ap not (ap (λ (k : ℕ). eqb k 0) (sym (checked_value _ h.first.value h.value h.first.is))) ∙ passed_test _ h.first.value h.value h.first.is) in
    let law = entries_law h.value h.value [] h.second.value h.back (omega (arith, some)) (omega arith) h.second.first in
    let count : h.value ≡ length es + 1 = sym law.3 ∙ ap (λ (xs : List Entry). length xs + 1) same in
    join h (u2 (length es + 1)) (flat_map entry_bytes es) (t16 _ h.value h.front h.first ∙ ap u2 count) (law.2 ∙ ap (flat_map entry_bytes) (sym law.1 ∙ same))
