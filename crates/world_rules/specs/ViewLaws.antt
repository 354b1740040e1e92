-- What holds of views. This project's own.
use Rattle.std.specs.Prelude.{◌≡◌, ℕ, ◌<◌, ◌≤◌, List, map, length, slice_get, Option, Some, None}
use Rattle.startup_rules.specs.Worlds.{World, parts, with_parts}
use Rattle.startup_rules.specs.Visits.{times}
use Rattle.startup_rules.specs.Views.{View, IsView, IsGraph, HaveOneView}
use Rattle.startup_rules.specs.declared.slot.Slot.{Slot}
use Rattle.startup_rules.specs.declared.slot.Slot.TheVariants as slot
use Rattle.startup_rules.specs.declared.slot.Object.{Object}

pub record EachWorldHasOneView : Type 0 where
  pub there : (w : World) → (v : View) × IsView w v
  pub one : (w : World) (a b : View) → IsView w a → IsView w b → a ≡ b

pub record OneViewIsAnEquivalence : Type 0 where
  pub reflexive : (w : World) → HaveOneView w w
  pub symmetric : (w w' : World) → HaveOneView w w' → HaveOneView w' w
  pub transitive : (w w' w'' : World) → HaveOneView w w' → HaveOneView w' w'' → HaveOneView w w''

-- a slot whose object has another number
abbrev pub moved : (ℕ → ℕ) → Slot → Slot
moved f slot.Null = slot.Null
moved f (slot.Bool b) = slot.Bool b
moved f (slot.Long n) = slot.Long n
moved f (slot.Str t) = slot.Str t
moved f (slot.Obj o) = slot.Obj (f o)

abbrev pub moved_object : (ℕ → ℕ) → Object → Object
moved_object f x = with_parts x (map (moved f) (parts x))

abbrev pub moved_option : (ℕ → ℕ) → Option Object → Option Object
moved_option f None = None
moved_option f (Some x) = Some (moved_object f x)

-- The second world shows the same, but that object o has the number f o there: of the objects that the first one reaches, in this order, each is there; and no
-- other object has such a number.
pub record Moved (f : ℕ → ℕ) (w w' : World) (order : List ℕ) : Type 0 where
  pub lines : w'.lines ≡ w.lines
  pub statics : w'.statics ≡ map (map (moved f)) w.statics
  pub context : w'.context ≡ map (λ (p : List ℕ × Slot). (p.0, moved f p.1)) w.context
  pub objects : (o : ℕ) → 0 < times o order → slice_get w'.objects (f o) ≡ moved_option f (slice_get w.objects o)
  pub apart : (a b : ℕ) → 0 < times a order → f a ≡ f b → a ≡ b
  pub inside : (o : ℕ) → o < length w.objects → f o < length w'.objects
  pub outside : (o : ℕ) → length w.objects ≤ o → length w'.objects ≤ f o

abbrev pub AViewKnowsNoAge : Type 0
AViewKnowsNoAge = (f : ℕ → ℕ) (w w' : World) (order : List ℕ) → IsGraph w order → Moved f w w' order → HaveOneView w w'
