-- A pool that was entered is valid.
use Rattle.std.proofs.Common.{◌≡◌, ℕ, ◌+◌, ◌<◌, ◌≤◌, true, List, [], ◌∷◌, length, refl, arith}
use Rattle.class_pool.specs.declared.entry.Entry.{Entry}
use Rattle.class_pool.specs.declared.entry.Entry.TheVariants as entry
use Rattle.class_pool.specs.Entries.{entry_at, is_utf8, is_class, is_name_type}
use Rattle.class_pool.proofs.CallerLemmas.{both}
use Rattle.class_pool.specs.Growth.{ReferRight, GapsRight}
use Rattle.class_pool.proofs.CallerLemmas.{kind_in, not_bad}
use Rattle.class_grammar.specs.Valid.{Small, IsFormed, IsPool, EachFits}

utf8_small : (pool : List Entry) (n : ℕ) → length pool < 65535 → is_utf8 (entry_at pool n) ≡ true → Small n
utf8_small pool n few h = omega (arith, few, kind_in is_utf8 pool n refl h)

class_small : (pool : List Entry) (n : ℕ) → length pool < 65535 → is_class (entry_at pool n) ≡ true → Small n
class_small pool n few h = omega (arith, few, kind_in is_class pool n refl h)

name_small : (pool : List Entry) (n : ℕ) → length pool < 65535 → is_name_type (entry_at pool n) ≡ true → Small n
name_small pool n few h = omega (arith, few, kind_in is_name_type pool n refl h)

formed : (pool es : List Entry) → length pool < 65535 → GapsRight es → EachFits es → ReferRight pool es → IsFormed es
formed pool [] few s f r = tt
formed pool (entry.Long n ∷ entry.Gap ∷ es) few s f r = (f.0, formed pool es few s f.1.1 r.1.1)
formed pool (entry.Double n ∷ entry.Gap ∷ es) few s f r = (f.0, formed pool es few s f.1.1 r.1.1)
formed pool (entry.Utf8 t ∷ es) few s f r = (f.0, formed pool es few s f.1 r.1)
formed pool (entry.Integer n ∷ es) few s f r = (f.0, formed pool es few s f.1 r.1)
formed pool (entry.Float n ∷ es) few s f r = (f.0, formed pool es few s f.1 r.1)
formed pool (entry.Class n ∷ es) few s f r = (utf8_small pool n few r.0, formed pool es few s f.1 r.1)
formed pool (entry.Str n ∷ es) few s f r = (utf8_small pool n few r.0, formed pool es few s f.1 r.1)
formed pool (entry.Field a b ∷ es) few s f r = let h = both _ _ r.0 in ((class_small pool a few h.0, name_small pool b few h.1), formed pool es few s f.1 r.1)
formed pool (entry.Method a b ∷ es) few s f r = let h = both _ _ r.0 in ((class_small pool a few h.0, name_small pool b few h.1), formed pool es few s f.1 r.1)
formed pool (entry.Interface a b ∷ es) few s f r = let h = both _ _ r.0 in ((class_small pool a few h.0, name_small pool b few h.1), formed pool es few s f.1 r.1)
formed pool (entry.NameType a b ∷ es) few s f r = let h = both _ _ r.0 in ((utf8_small pool a few h.0, utf8_small pool b few h.1), formed pool es few s f.1 r.1)
formed pool _ few s f r = absurd s

pub pool_valid : (es : List Entry) → length es < 65535 → GapsRight es → EachFits es → ReferRight es es → IsPool es
pool_valid es few s f r = record { few = few; formed = formed es es few s f r; refer = not_bad es r }
