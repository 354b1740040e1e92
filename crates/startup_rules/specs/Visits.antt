-- Numbering by first visit, depth first. This project's own.
use Rattle.std.specs.Prelude.{◌≡◌, ℕ, ◌+◌, ◌<◌, List, [], ◌∷◌, ◌++◌, length, cond, ◌==◌, nat_lt, if◌then◌else◌, slice_index_or}
use Rattle.startup_rules.specs.declared.slot.Slot.{Slot}
use Rattle.startup_rules.specs.declared.slot.Slot.TheVariants.{Null, Bool as Truth, Long, Str, Obj}

abbrev pub one_at : ℕ → ℕ → ℕ
one_at x y = cond (y == x) 1 0

-- how often a number stands in a list
abbrev pub times : ℕ → List ℕ → ℕ
times x [] = 0
times x (y ∷ ys) = one_at x y + times x ys

-- the objects, of that many, to which slots refer, in order; a reference to no object is passed over
abbrev pub refs_of : ℕ → List Slot → List ℕ
refs_of n [] = []
refs_of n (Null ∷ ss) = refs_of n ss
refs_of n (Truth b ∷ ss) = refs_of n ss
refs_of n (Long k ∷ ss) = refs_of n ss
refs_of n (Str t ∷ ss) = refs_of n ss
refs_of n (Obj x ∷ ss) = if nat_lt x n then x ∷ refs_of n ss else refs_of n ss

-- the objects to which object x refers, the parts of all objects given
abbrev pub refs : List (List Slot) → ℕ → List ℕ
refs objects x = refs_of (length objects) (slice_index_or objects x [])

-- Visiting some objects in turn, where those of `seen` have their numbers already, leads to a longer list: an object that was seen is passed over, and
-- another one gets the next number, then all that it refers to is visited, and then the others.
pub data Visits (objects : List (List Slot)) : List ℕ → List ℕ → List ℕ → Type 0 where
  done : (seen todo after : List ℕ) → todo ≡ [] → after ≡ seen → Visits objects seen todo after
  old : (seen todo after : List ℕ) (x : ℕ) (xs : List ℕ) → todo ≡ x ∷ xs → 0 < times x seen → Visits objects seen xs after → Visits objects seen todo after
  new : (seen todo after : List ℕ) (x : ℕ) (xs mid : List ℕ) → todo ≡ x ∷ xs → times x seen ≡ 0 → Visits objects (seen ++ x ∷ []) (refs objects x) mid → Visits objects mid xs after
      → Visits objects seen todo after
