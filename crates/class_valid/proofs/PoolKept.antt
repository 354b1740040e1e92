-- What bytes spell is valid: the pool.
use Rattle.std.proofs.Common.{◌≡◌, ℕ, zero, suc, ◌+◌, ◌<◌, ◌≤◌, ◌^◌, Bool, true, false, not, List, [], ◌∷◌, ◌++◌, length, Option, Some, None, refl, sym, ap, subst, ◌∙◌, arith, eqb}
use Rattle.std.specs.Prelude.{ℤ, FitsSigned}
use Rattle.std.specs.Int.{w64, cast_signed}
use Rattle.std.proofs.lemmas.Bool.{eqb-true}
use Rattle.std.proofs.Math.Facts.{sfits_to_z, Fits-of_lt}
use Rattle.class_pool.specs.Modified.{modified}
use Rattle.class_pool.specs.Entries.{bad}
use Rattle.class_pool.proofs.CallerLemmas.{text_takes}
use Rattle.class_pool.specs.declared.entry.Entry.{Entry}
use Rattle.class_pool.specs.declared.entry.Entry.TheVariants as entry
use Rattle.class_pool.specs.declared.tag.Tag.{Tag}
use Rattle.class_pool.specs.declared.tag.Tag.TheVariants as tag
use Rattle.class_pool.specs.Tags.{tag_of}
use Rattle.class_grammar.specs.Layout.{Layout, yes, no, many}
use Rattle.class_grammar.specs.Grammar as grammar
use Rattle.class_grammar.specs.Valid.{Small, Fits4, IsFormed, IsPool}
use Rattle.class_valid.proofs.Joined.{checked_value}
use Rattle.class_valid.proofs.Pools.{passed_test, eight_spelled, entries_law, not_zero}
use Rattle.class_valid.proofs.Kept.{small_of, four_of}

formed_append : (xs ys : List Entry) → IsFormed xs → IsFormed ys → IsFormed (xs ++ ys)
formed_append [] ys h k = k
formed_append (entry.Long n ∷ entry.Gap ∷ xs) ys h k = (h.0, formed_append xs ys h.1 k)
formed_append (entry.Double n ∷ entry.Gap ∷ xs) ys h k = (h.0, formed_append xs ys h.1 k)
formed_append (entry.Utf8 t ∷ xs) ys h k = (h.0, formed_append xs ys h.1 k)
formed_append (entry.Integer n ∷ xs) ys h k = (h.0, formed_append xs ys h.1 k)
formed_append (entry.Float n ∷ xs) ys h k = (h.0, formed_append xs ys h.1 k)
formed_append (entry.Class n ∷ xs) ys h k = (h.0, formed_append xs ys h.1 k)
formed_append (entry.Str n ∷ xs) ys h k = (h.0, formed_append xs ys h.1 k)
formed_append (entry.Field a b ∷ xs) ys h k = (h.0, formed_append xs ys h.1 k)
formed_append (entry.Method a b ∷ xs) ys h k = (h.0, formed_append xs ys h.1 k)
formed_append (entry.Interface a b ∷ xs) ys h k = (h.0, formed_append xs ys h.1 k)
formed_append (entry.NameType a b ∷ xs) ys h k = (h.0, formed_append xs ys h.1 k)
formed_append _ ys h k = absurd h

abbrev Formed : Layout (List Entry) → Type 0
Formed L = (xs : List Entry) (bytes : List ℕ) → L.Spells xs bytes → IsFormed xs

utf8_formed : (i : ℕ) → Formed (grammar.utf8 i)
unfolding grammar.utf8
utf8_formed i xs bytes h =
    let b = h.second in
    let t = text_takes b.first.value b.value b.first.is in
    let len : h.value ≡ length (modified b.value) = sym b.first.first.len_is ∙ ap length t.bytes_are in
    subst IsFormed (sym b.second.is) ((t.is_text, subst (λ n. Small n) len (small_of h.value h.front h.first)), tt)

four_formed : (made : ℕ → Entry) → ((n : ℕ) → Fits4 n → IsFormed (made n ∷ [])) → Formed (grammar.four made)
unfolding grammar.four
four_formed made is xs bytes h = subst IsFormed (sym h.second.is) (is h.value (four_of h.value h.front h.first))

one_formed : (made : ℕ → Entry) → ((n : ℕ) → Small n → IsFormed (made n ∷ [])) → Formed (grammar.one made)
unfolding grammar.one
one_formed made is xs bytes h = subst IsFormed (sym h.second.is) (is h.value (small_of h.value h.front h.first))

pair_small : (ab : ℕ × ℕ) (bytes : List ℕ) → grammar.pair.Spells ab bytes → Small ab.0 × Small ab.1
unfolding grammar.pair
pair_small ab bytes h =
    let b = h.second in
    subst (λ (r : ℕ × ℕ). Small r.0 × Small r.1) (sym b.second.is) (small_of h.value h.front h.first, small_of b.value b.front b.first)

two_formed : (made : ℕ → ℕ → Entry) → ((a b : ℕ) → Small a × Small b → IsFormed (made a b ∷ [])) → Formed (grammar.two made)
unfolding grammar.two
two_formed made is xs bytes h = subst IsFormed (sym h.second.is) (is h.value.0 h.value.1 (pair_small h.value h.front h.first))

long_formed : (i count : ℕ) → Formed (grammar.long i count)
unfolding grammar.long
long_formed i count xs bytes h =
    let g = eight_spelled i count h.value h.front h.first in
    let fits : FitsSigned w64 (cast_signed w64 h.value) = sfits_to_z {w = w64} {n = h.value} (Fits-of_lt {w = w64} {n = h.value} g.1) in
    subst IsFormed (sym h.second.is) (fits, tt)

double_formed : (i count : ℕ) → Formed (grammar.double_of i count)
unfolding grammar.double_of
double_formed i count xs bytes h =
    let g = eight_spelled i count h.value h.front h.first in
    subst IsFormed (sym h.second.is) (omega (arith, g.1), tt)

with_formed : (i count : ℕ) (t : Option Tag) → Formed (grammar.entry_with i count t)
unfolding grammar.entry_with
with_formed i count None xs bytes h = absurd h
with_formed i count (Some tag.Utf8) xs bytes h = utf8_formed i xs bytes h
with_formed i count (Some tag.Integer) xs bytes h = four_formed entry.Integer (λ n lt. (lt, tt)) xs bytes h
with_formed i count (Some tag.Float) xs bytes h = four_formed entry.Float (λ n lt. (lt, tt)) xs bytes h
with_formed i count (Some tag.Long) xs bytes h = long_formed i count xs bytes h
with_formed i count (Some tag.Double) xs bytes h = double_formed i count xs bytes h
with_formed i count (Some tag.Class) xs bytes h = one_formed entry.Class (λ n lt. (lt, tt)) xs bytes h
with_formed i count (Some tag.Str) xs bytes h = one_formed entry.Str (λ n lt. (lt, tt)) xs bytes h
with_formed i count (Some tag.Field) xs bytes h = two_formed entry.Field (λ a b lt. (lt, tt)) xs bytes h
with_formed i count (Some tag.Method) xs bytes h = two_formed entry.Method (λ a b lt. (lt, tt)) xs bytes h
with_formed i count (Some tag.Interface) xs bytes h = two_formed entry.Interface (λ a b lt. (lt, tt)) xs bytes h
with_formed i count (Some tag.NameType) xs bytes h = two_formed entry.NameType (λ a b lt. (lt, tt)) xs bytes h

from_formed : (i count : ℕ) → Formed (grammar.entry_from i count)
unfolding grammar.entry_from
from_formed i count xs bytes h = with_formed i count (tag_of h.value) xs h.back h.second

next_formed : (count : ℕ) (found : List Entry) → Formed (grammar.next_entry count found)
unfolding grammar.next_entry
next_formed count found xs bytes (yes e s) = from_formed _ count xs bytes s
next_formed count found xs bytes (no e s) = subst IsFormed (sym s.is) tt

many_formed : (count n : ℕ) (found ys : List Entry) (bytes : List ℕ) → IsFormed found → (many n found (grammar.next_entry count)).Spells ys bytes → IsFormed ys
unfolding many
many_formed count zero found ys bytes f h = subst IsFormed (sym h.is) f
many_formed count (suc n) found ys bytes f h = many_formed count n (found ++ h.value) ys h.back (formed_append found h.value f (next_formed count found h.value h.front h.first)) h.second

pub pool_kept : (es : List Entry) (bytes : List ℕ) → grammar.pool.Spells es bytes → IsPool es
unfolding grammar.pool
pool_kept es bytes h =
    let same : h.second.value ≡ es = checked_value _ h.second.value es h.second.is in
    let some : 1 ≤ h.value = not_zero h.value (ap not (ap (λ (k : ℕ). eqb k 0) (sym (checked_value _ h.first.value h.value h.first.is))) ∙ passed_test _ h.first.value h.value h.first.is) in
    let law = entries_law h.value h.value [] h.second.value h.back (omega (arith, some)) (omega arith) h.second.first in
    let count : h.first.value ≡ h.value = checked_value _ h.first.value h.value h.first.is in
    let good : bad h.second.value ≡ 0 = eqb-true (bad h.second.value) 0 (passed_test _ h.second.value es h.second.is) in
    subst IsPool same (record { few = omega (arith, law.3, count, small_of h.first.value h.front h.first.first); formed = many_formed h.value h.value [] h.second.value h.back tt h.second.first; refer = good })
