-- The index beside a pool's entries: a hint that is looked at before it is believed.
use Rattle.std.specs.Prelude.{◌≡◌, ℕ, ◌+◌, ◌<◌, ◌≤◌, ◌^◌, Bool, true, cond, List, [], ◌∷◌, ◌++◌, length, Option, Some, None, slice_get, FitsSigned}
use Rattle.std.specs.Int.{w32, w64, to_be_bytes, cast_unsigned}
use Rattle.std.specs.Ordering.{nat_cmp}
use Rattle.std.specs.Cmp.Lexicographic.{slice_cmp}
use Rattle.std.specs.BTreeMap.{get_by}
use Rattle.class_pool.specs.Entries.{entry_at}
use Rattle.class_pool.specs.Showing.{shows, passes, least}
use Rattle.class_pool.specs.declared.entry.Entry.{Entry}
use Rattle.class_pool.specs.declared.entry.Entry.TheVariants as entry
use Rattle.class_pool.specs.declared.shown.Shown.{Shown}
use Rattle.class_pool.specs.declared.shown.Shown.TheVariants as shown
use Rattle.class_pool.specs.declared.pool.Pool.TheInside.{Inside}

-- a text behind its length
abbrev pub sized : List ℕ → List ℕ
sized t = to_be_bytes w64 (length t) ++ t

-- under which key the index keeps what an entry shows
abbrev pub key : Shown → List ℕ
key (shown.Text t) = 1 ∷ t
key (shown.Integer n) = 3 ∷ to_be_bytes w32 n
key (shown.Long n) = 5 ∷ to_be_bytes w64 (cast_unsigned w64 n)
key (shown.Class t) = 7 ∷ t
key (shown.Str t) = 8 ∷ t
key (shown.NameType a b) = 12 ∷ [] ++ (sized a ++ b)
key (shown.Field c a b) = 9 ∷ [] ++ (sized c ++ (sized a ++ b))
key (shown.Method c a b) = 10 ∷ [] ++ (sized c ++ (sized a ++ b))

-- numbers of their types, and texts that a key can size
abbrev pub IsSound : Shown → Type 0
IsSound (shown.Integer n) = n < 2 ^ 32
IsSound (shown.Long n) = FitsSigned w64 n
IsSound (shown.NameType a b) = length a < 2 ^ 64
IsSound (shown.Field c a b) = (length c < 2 ^ 64) × (length a < 2 ^ 64)
IsSound (shown.Method c a b) = (length c < 2 ^ 64) × (length a < 2 ^ 64)
IsSound _ = Unit {0}

-- the index that the map has for a key
abbrev pub hint : Inside → List ℕ → Option ℕ
hint p k = get_by (λ q. slice_cmp nat_cmp k q.items) p.index

-- the hint, where its entry passes
abbrev pub verified_by : (Entry → Bool) → List Entry → Option ℕ → Option ℕ
verified_by test es None = None
verified_by test es (Some i) = cond (passes test (entry_at es i)) (Some i) None

-- the hint, where its entry shows what is looked for
abbrev pub verified : List Entry → Shown → Option ℕ → Option ℕ
verified es what o = verified_by (shows es what) es o

-- the indices that an entry refers to are at most n
abbrev pub IsBelow : ℕ → Entry → Type 0
IsBelow n (entry.Class a) = a ≤ n
IsBelow n (entry.Str a) = a ≤ n
IsBelow n (entry.NameType a b) = (a ≤ n) × (b ≤ n)
IsBelow n (entry.Field a b) = (a ≤ n) × (b ≤ n)
IsBelow n (entry.Method a b) = (a ≤ n) × (b ≤ n)
IsBelow n (entry.Interface a b) = (a ≤ n) × (b ≤ n)
IsBelow n _ = Unit {0}

-- each entry refers to earlier ones
abbrev pub AreBackward : List Entry → Type 0
AreBackward es = (i : ℕ) (e : Entry) → slice_get es i ≡ Some e → IsBelow i e

-- the index finds the least entry that shows anything
abbrev pub FindsEach : Inside → Type 0
FindsEach p = (what : Shown) → IsSound what → verified p.entries.items what (hint p (key what)) ≡ least what p.entries.items

-- what a pool keeps: no index passes 65,534; and where all its entries were entered here, its index finds each
pub record IsKept (p : Inside) : Type 0 where
  pub few : length p.entries.items < 65535
  pub backward : p.indexed ≡ true → AreBackward p.entries.items
  pub finds : p.indexed ≡ true → FindsEach p

abbrev pub entries_of : Inside → List Entry
entries_of p = p.entries.items
