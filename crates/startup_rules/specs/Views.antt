-- The view of a world: what its lines, its statics and its context show. This project's own.
use Rattle.std.specs.Prelude.{◌≡◌, ℕ, List, [], ◌∷◌, ◌++◌, map, length, ◌==◌, slice_index_or}
use Rattle.std.specs.List.{position_or_len}
use Rattle.startup_rules.specs.Worlds.{World, parts, with_parts, new_list}
use Rattle.startup_rules.specs.declared.slot.Slot.{Slot}
use Rattle.startup_rules.specs.declared.slot.Slot.TheVariants as slot
use Rattle.startup_rules.specs.declared.slot.Object.{Object}
use Rattle.startup_rules.specs.Visits.{Visits, refs_of}

abbrev pub rows_of : World → List (List Slot)
rows_of w = map parts w.objects

abbrev pub static_refs : ℕ → List (List Slot) → List ℕ
static_refs n [] = []
static_refs n (row ∷ rows) = refs_of n row ++ static_refs n rows

abbrev pub context_slots : World → List Slot
context_slots w = map (λ (p : List ℕ × Slot). p.1) w.context

-- where a view begins: at the statics, by recorder and then by static, and then at the context
abbrev pub roots : World → List ℕ
roots w = static_refs (length w.objects) w.statics ++ refs_of (length w.objects) (context_slots w)

-- the objects of a view, in the order of their numbers
abbrev pub IsGraph : World → List ℕ → Type 0
IsGraph w order = Visits (rows_of w) [] (roots w) order

-- the number of an object in a view, or how many objects it has
abbrev pub number_in : List ℕ → ℕ → ℕ
number_in order o = position_or_len (λ x. x == o) order

-- a slot whose reference is by that number
abbrev pub numbered : List ℕ → Slot → Slot
numbered order slot.Null = slot.Null
numbered order (slot.Bool b) = slot.Bool b
numbered order (slot.Long n) = slot.Long n
numbered order (slot.Str t) = slot.Str t
numbered order (slot.Obj o) = slot.Obj (number_in order o)

abbrev pub numbered_object : List ℕ → Object → Object
numbered_object order x = with_parts x (map (numbered order) (parts x))

pub record View : Type 0 where
  pub lines : List (List ℕ)
  pub statics : List (List Slot)
  pub context : List (List ℕ × Slot)
  pub objects : List Object

-- what a world shows where its objects have the numbers of this order
abbrev pub shown : List ℕ → World → View
shown order w = record {
  lines = w.lines;
  statics = map (map (numbered order)) w.statics;
  context = map (λ (p : List ℕ × Slot). (p.0, numbered order p.1)) w.context;
  objects = map (λ (o : ℕ). numbered_object order (slice_index_or w.objects o new_list)) order;
}

pub record IsView (w : World) (v : View) : Type 0 where
  pub order : List ℕ
  pub by_first_visit : IsGraph w order
  pub shows : v ≡ shown order w

-- two worlds that look the same
pub record HaveOneView (w w' : World) : Type 0 where
  pub view : View
  pub first : IsView w view
  pub second : IsView w' view
