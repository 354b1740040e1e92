-- Worlds: the opening one, and what is put into one from outside a method. These changes spend nothing. This project's own.
use Rattle.std.specs.Prelude.{ℕ, if◌then◌else◌, List, [], ◌∷◌, ◌++◌, map, length, replicate, set, slice_get, Option, Some, None}
use Rattle.std.specs.Str.{bytes_eq}
use Rattle.item_types.specs.Named.{fields_of, recorder_fields}
use Rattle.item_types.specs.declared.decl.Names.{Names}
use Rattle.item_types.specs.declared.decl.RecorderDecl.{RecorderDecl}
use Rattle.startup_rules.specs.declared.world.WorldParts.{WorldParts}
use Rattle.startup_rules.specs.declared.slot.Slot.{Slot}
use Rattle.startup_rules.specs.declared.slot.Slot.TheVariants as slot
use Rattle.startup_rules.specs.declared.slot.Object.{Object}
use Rattle.startup_rules.specs.declared.slot.Object.TheVariants as object

abbrev pub World : Type 0
World = WorldParts

-- Objects

-- the elements of a list, or the fields of a bean or a recorder
abbrev pub parts : Object → List Slot
parts (object.List items) = items
parts (object.Bean k fields) = fields
parts (object.Recorder k fields) = fields

-- an object of the same kind with other parts
abbrev pub with_parts : Object → List Slot → Object
with_parts (object.List items) new = object.List new
with_parts (object.Bean k fields) new = object.Bean k new
with_parts (object.Recorder k fields) new = object.Recorder k new

-- the objects, with another one at place o
abbrev pub replaced : List Object → ℕ → (Object → Object) → Option Object → List Object
replaced l o f None = l
replaced l o f (Some x) = set l o (f x)

-- object o is what f makes of it from now on; where there is no such object, nothing changes
abbrev pub changed : ℕ → (Object → Object) → World → World
changed o f w = record w { objects = replaced w.objects o f (slice_get w.objects o) }

-- one more object, which has the next number
abbrev pub entered : Object → World → ℕ × World
entered x w = (length w.objects, record w { objects = w.objects ++ x ∷ [] })

abbrev pub nulls : List (List ℕ) → List Slot
nulls fields = replicate (length fields) slot.Null

abbrev pub new_list : Object
new_list = object.List []

-- its fields are null
abbrev pub new_bean : Names → ℕ → Object
new_bean names bean = object.Bean bean (nulls (fields_of (slice_get names.beans bean)))

-- its fields are null
abbrev pub new_recorder : Names → ℕ → Object
new_recorder names recorder = object.Recorder recorder (nulls (recorder_fields (slice_get names.recorders recorder)))

-- a list has one more element; another object stays
abbrev pub with_more : Slot → Object → Object
with_more v (object.List items) = object.List (items ++ v ∷ [])
with_more v (object.Bean k fields) = object.Bean k fields
with_more v (object.Recorder k fields) = object.Recorder k fields

-- the part at that place is the slot
abbrev pub with_part : ℕ → Slot → Object → Object
with_part k v x = with_parts x (set (parts x) k v)

-- list o has one more element
abbrev pub list_added : ℕ → Slot → World → World
list_added o v w = changed o (with_more v) w

-- field k of object o is the slot
abbrev pub field_set : ℕ → ℕ → Slot → World → World
field_set o k v w = changed o (with_part k v) w

-- The context

-- the slot under the key
abbrev pub kept : List (List ℕ × Slot) → List ℕ → Option Slot
kept [] key = None
kept (p ∷ ps) key = if bytes_eq p.0 key then Some p.1 else kept ps key

-- a key that is there keeps its place, and another one comes last
abbrev pub put : List (List ℕ × Slot) → List ℕ → Slot → List (List ℕ × Slot)
put [] key v = (key, v) ∷ []
put (p ∷ ps) key v = if bytes_eq p.0 key then (key, v) ∷ ps else p ∷ put ps key v

abbrev pub context_put : List ℕ → Slot → World → World
context_put key v w = record w { context = put w.context key v }

-- the slot under the key, or null
abbrev pub recalled : Option Slot → Slot
recalled None = slot.Null
recalled (Some v) = v

abbrev pub context_get : List (List ℕ × Slot) → List ℕ → Slot
context_get context key = recalled (kept context key)

-- The opening world

abbrev pub opening_statics : RecorderDecl → List Slot
opening_statics decl = nulls decl.statics

-- no objects, all statics null, nothing spent
abbrev pub opening : Names → World
opening names = record { objects = []; statics = map opening_statics names.recorders; context = []; lines = []; turns = 0; cells = 0; text = 0 }
