-- What entering adds to a pool, counted against what is left to enter.
use Rattle.std.specs.Prelude.{◌≡◌, ℕ, zero, suc, ◌+◌, ◌<◌, ◌≤◌, Bool, true, List, [], ◌∷◌, ◌++◌, length, Option, Some, None, ◌⊎◌}
use Rattle.class_pool.specs.declared.entry.Entry.{Entry}
use Rattle.class_pool.specs.declared.entry.Entry.TheVariants as entry
use Rattle.class_pool.specs.declared.shown.Shown.{Shown}
use Rattle.class_pool.specs.declared.shown.Shown.TheVariants as shown
use Rattle.class_pool.specs.Entries.{refers}
use Rattle.class_pool.specs.Showing.{least, Holds}
use Rattle.class_pool.specs.Enter.{Entered}
use Rattle.item_types.specs.Modified.{modified_len}

-- each of these entries refers to entries of the right kinds in the pool
abbrev pub ReferRight : List Entry → List Entry → Type 0
ReferRight pool [] = Unit {0}
ReferRight pool (e ∷ es) = (refers pool e ≡ true) × ReferRight pool es

-- ---- sizes: f t of a text's entry, k of each other

abbrev pub size_of : (List ℕ → ℕ) → ℕ → Entry → ℕ
size_of f k (entry.Utf8 t) = f t
size_of f k _ = k

abbrev pub size : (List ℕ → ℕ) → ℕ → List Entry → ℕ
size f k [] = 0
size f k (e ∷ es) = size_of f k e + size f k es

-- the size of the entries that show this and no part of it; a long has two
abbrev pub cost : (List ℕ → ℕ) → ℕ → Shown → ℕ
cost f k (shown.Text t) = f t
cost f k (shown.Long n) = k + k
cost f k _ = k

abbrev pub unless_found : Option ℕ → ℕ → ℕ
unless_found None n = n
unless_found (Some i) n = 0

-- what is left to enter
abbrev pub left : (List ℕ → ℕ) → ℕ → List Shown → List Entry → ℕ
left f k [] es = 0
left f k (u ∷ us) es = unless_found (least u es) (cost f k u) + left f k us es

abbrev pub one : List ℕ → ℕ
one t = 1

-- all that there is to enter
abbrev pub weight : (List ℕ → ℕ) → ℕ → List Shown → ℕ
weight f k [] = 0
weight f k (u ∷ us) = cost f k u + weight f k us

abbrev pub Among : Shown → List Shown → Type 0
Among w [] = ⊥
Among w (u ∷ us) = (u ≡ w) ⊎ Among w us

-- it and all its parts are among them
abbrev pub Covered : List Shown → Shown → Type 0
Covered us (shown.Text t) = Among (shown.Text t) us
Covered us (shown.Integer n) = Among (shown.Integer n) us
Covered us (shown.Long n) = Among (shown.Long n) us
Covered us (shown.Class t) = Among (shown.Text t) us × Among (shown.Class t) us
Covered us (shown.Str t) = Among (shown.Text t) us × Among (shown.Str t) us
Covered us (shown.NameType a b) = Among (shown.Text a) us × Among (shown.Text b) us × Among (shown.NameType a b) us
Covered us (shown.Field c a b) = (Among (shown.Text c) us × Among (shown.Class c) us) × (Among (shown.Text a) us × Among (shown.Text b) us × Among (shown.NameType a b) us) × Among (shown.Field c a b) us
Covered us (shown.Method c a b) = (Among (shown.Text c) us × Among (shown.Class c) us) × (Among (shown.Text a) us × Among (shown.Text b) us × Among (shown.NameType a b) us) × Among (shown.Method c a b) us

-- it and all its parts
abbrev pub with_parts : Shown → List Shown
with_parts (shown.Class t) = shown.Text t ∷ shown.Class t ∷ []
with_parts (shown.Str t) = shown.Text t ∷ shown.Str t ∷ []
with_parts (shown.NameType a b) = shown.Text a ∷ shown.Text b ∷ shown.NameType a b ∷ []
with_parts (shown.Field c a b) = shown.Text c ∷ shown.Class c ∷ shown.Text a ∷ shown.Text b ∷ shown.NameType a b ∷ shown.Field c a b ∷ []
with_parts (shown.Method c a b) = shown.Text c ∷ shown.Class c ∷ shown.Text a ∷ shown.Text b ∷ shown.NameType a b ∷ shown.Method c a b ∷ []
with_parts w = w ∷ []

-- how many entries it takes where none of its parts is there
abbrev pub entries_for : Shown → ℕ
entries_for (shown.Text t) = 1
entries_for (shown.Integer n) = 1
entries_for (shown.Long n) = 2
entries_for (shown.Class t) = 2
entries_for (shown.Str t) = 2
entries_for (shown.NameType a b) = 3
entries_for (shown.Field c a b) = 6
entries_for (shown.Method c a b) = 6

-- ---- how a pool grows

-- 0 of what has no parts, 1 of what has texts as parts, 2 of members
abbrev pub rank : Entry → ℕ
rank (entry.Class n) = 1
rank (entry.Str n) = 1
rank (entry.NameType a b) = 1
rank (entry.Field a b) = 2
rank (entry.Method a b) = 2
rank (entry.Interface a b) = 2
rank _ = 0

abbrev pub AreBelow : ℕ → List Entry → Type 0
AreBelow n [] = Unit {0}
AreBelow n (e ∷ es) = (rank e < n) × AreBelow n es

-- a gap behind each long and double, and nowhere else
abbrev pub GapsRight : List Entry → Type 0
GapsRight [] = Unit {0}
GapsRight (entry.Long n ∷ entry.Gap ∷ es) = GapsRight es
GapsRight (entry.Double n ∷ entry.Gap ∷ es) = GapsRight es
GapsRight (entry.Long n ∷ es) = ⊥
GapsRight (entry.Double n ∷ es) = ⊥
GapsRight (entry.Gap ∷ es) = ⊥
GapsRight (e ∷ es) = GapsRight es

pub record Grows (n : ℕ) (us : List Shown) (es fs : List Entry) : Type 0 where
  pub stays : (more : List Entry) × (fs ≡ es ++ more) × AreBelow n more × GapsRight more
  pub refer : ReferRight fs fs
  pub kept : (f : List ℕ → ℕ) (k : ℕ) → size f k fs + left f k us fs ≤ size f k es + left f k us es

-- entering does that, where there is room; it is refused only where what is there and what is left to enter is too much
abbrev pub Puts : ℕ → List Shown → Shown → List Entry → Entered → Type 0
Puts n us w es None = 65534 < length es + left one 1 us es
Puts n us w es (Some r) = Holds r.1 r.0 w × Grows n us es r.1

-- ---- short texts

-- each text of the entries has at most 65,535 bytes (JVMS 4.4.7)
abbrev pub AreShort : List Entry → Type 0
AreShort [] = Unit {0}
AreShort (entry.Utf8 t ∷ es) = (modified_len t ≤ 65535) × AreShort es
AreShort (_ ∷ es) = AreShort es

-- and of what is shown
abbrev pub IsShort : Shown → Type 0
IsShort (shown.Text t) = modified_len t ≤ 65535
IsShort (shown.Class t) = modified_len t ≤ 65535
IsShort (shown.Str t) = modified_len t ≤ 65535
IsShort (shown.NameType a b) = (modified_len a ≤ 65535) × (modified_len b ≤ 65535)
IsShort (shown.Field c a b) = (modified_len c ≤ 65535) × (modified_len a ≤ 65535) × (modified_len b ≤ 65535)
IsShort (shown.Method c a b) = (modified_len c ≤ 65535) × (modified_len a ≤ 65535) × (modified_len b ≤ 65535)
IsShort _ = Unit {0}
