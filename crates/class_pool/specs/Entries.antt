-- The entries of a pool by their indices, from 1 on (JVMS 4.4), and which of them an entry may refer to.
use Rattle.std.specs.Prelude.{ℕ, ◌+◌, ◌-◌, Bool, true, false, ◌&&◌, cond, ◌==◌, List, [], ◌∷◌, Option, Some, None, slice_get}
use Rattle.class_pool.specs.declared.entry.Entry.{Entry}
use Rattle.class_pool.specs.declared.entry.Entry.TheVariants as entry

-- the entry at an index: none at 0 and past the end
abbrev pub entry_at : List Entry → ℕ → Option Entry
entry_at pool i = cond (i == 0) None (slice_get pool (i - 1))

abbrev pub is_utf8 : Option Entry → Bool
is_utf8 (Some (entry.Utf8 t)) = true
is_utf8 _ = false

abbrev pub is_class : Option Entry → Bool
is_class (Some (entry.Class n)) = true
is_class _ = false

abbrev pub is_name_type : Option Entry → Bool
is_name_type (Some (entry.NameType a b)) = true
is_name_type _ = false

-- whether an entry refers to entries of the right kinds
abbrev pub refers : List Entry → Entry → Bool
refers pool (entry.Class n) = is_utf8 (entry_at pool n)
refers pool (entry.Str n) = is_utf8 (entry_at pool n)
refers pool (entry.NameType a b) = is_utf8 (entry_at pool a) && is_utf8 (entry_at pool b)
refers pool (entry.Field a b) = is_class (entry_at pool a) && is_name_type (entry_at pool b)
refers pool (entry.Method a b) = is_class (entry_at pool a) && is_name_type (entry_at pool b)
refers pool (entry.Interface a b) = is_class (entry_at pool a) && is_name_type (entry_at pool b)
refers pool _ = true

-- from index i on, the least index of an entry that does not, and 0 where each does
abbrev pub bad_from : List Entry → ℕ → List Entry → ℕ
bad_from pool i [] = 0
bad_from pool i (e ∷ es) = cond (refers pool e) (bad_from pool (i + 1) es) i

abbrev pub bad : List Entry → ℕ
bad pool = bad_from pool 1 pool
