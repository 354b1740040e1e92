-- What a started application prints and leaves, in words: its lines, statics, context and objects, these by their numbers in the view. This project's own.
use Rattle.std.specs.Prelude.{ℕ, ◌+◌, Bool, true, false, cond, nat_lt, ◌==◌, ◌||◌, List, [], ◌∷◌, ◌++◌, map, slice_get, Option, Some, None, codes}
use Rattle.std.specs.List.{list_any}
use Rattle.std.specs.Fmt.{decimal, signed_decimal}
use Rattle.std.specs.Str.{chars}
use Rattle.item_types.specs.Named.{fields_of, bean_name, recorder_fields}
use Rattle.item_types.specs.Printed.{joined, named, bool_text}
use Rattle.item_types.specs.Quoted.{quoted}
use Rattle.item_types.specs.declared.decl.Names.{Names}
use Rattle.item_types.specs.declared.decl.RecorderDecl.{RecorderDecl}
use Rattle.startup_rules.specs.Worlds.{World}
use Rattle.startup_rules.specs.Views.{number_in}
use Rattle.startup_rules.specs.declared.slot.Slot.{Slot}
use Rattle.startup_rules.specs.declared.slot.Slot.TheVariants as slot
use Rattle.startup_rules.specs.declared.slot.Object.{Object}
use Rattle.startup_rules.specs.declared.slot.Object.TheVariants as object

-- a value's text, or the number of an object in the view
abbrev pub slot_text : List ℕ → Slot → List ℕ
slot_text order slot.Null = codes "null"
slot_text order (slot.Bool b) = bool_text b
slot_text order (slot.Long n) = signed_decimal n
slot_text order (slot.Str t) = quoted t
slot_text order (slot.Obj o) = codes "&" ++ decimal (number_in order o)

abbrev pub slots_text : List ℕ → List Slot → List ℕ
slots_text order slots = joined [] (codes ", ") (map (slot_text order) slots)

abbrev pub fields_text : List ℕ → List (List ℕ) → List Slot → List ℕ
fields_text order fields slots = joined [] (codes ", ") (named fields (map (slot_text order) slots))

abbrev pub recorder_name : Option RecorderDecl → List ℕ
recorder_name None = []
recorder_name (Some decl) = decl.name

abbrev pub object_text : Names → List ℕ → Object → List ℕ
object_text names order (object.List items) = codes "[" ++ slots_text order items ++ codes "]"
object_text names order (object.Bean k slots) = bean_name (slice_get names.beans k) ++ codes "{" ++ fields_text order (fields_of (slice_get names.beans k)) slots ++ codes "}"
object_text names order (object.Recorder k slots) =
    codes "recorder " ++ recorder_name (slice_get names.recorders k) ++ codes "{" ++ fields_text order (recorder_fields (slice_get names.recorders k)) slots ++ codes "}"

abbrev pub lines_text : List (List ℕ) → List ℕ
lines_text [] = []
lines_text (t ∷ ts) = (t ++ codes "\n") ++ lines_text ts

abbrev pub is_null : Slot → Bool
is_null slot.Null = true
is_null _ = false

-- a line for a static that isn't null
abbrev pub static_text : List ℕ → List ℕ → List ℕ → Slot → List ℕ
static_text order recorder f v = cond (is_null v) [] (codes "static " ++ recorder ++ codes "." ++ f ++ codes " = " ++ slot_text order v ++ codes "\n")

abbrev pub statics_text : List ℕ → List ℕ → List (List ℕ) → List Slot → List ℕ
statics_text order recorder [] slots = []
statics_text order recorder (f ∷ fs) [] = []
statics_text order recorder (f ∷ fs) (v ∷ vs) = static_text order recorder f v ++ statics_text order recorder fs vs

abbrev pub recorders_text : List ℕ → List RecorderDecl → List (List Slot) → List ℕ
recorders_text order [] rows = []
recorders_text order (d ∷ ds) [] = []
recorders_text order (d ∷ ds) (row ∷ rows) = statics_text order d.name d.statics row ++ recorders_text order ds rows

-- a character that could end a line or be taken for another one
abbrev pub is_control : ℕ → Bool
is_control c = nat_lt c 0x20 || c == 0x7f

-- a key as it is, or quoted where it has a control character, so that no key makes a line
abbrev pub key_text : List ℕ → List ℕ
key_text t = cond (list_any is_control (chars t)) (quoted t) t

abbrev pub context_text : List ℕ → List (List ℕ × Slot) → List ℕ
context_text order [] = []
context_text order (p ∷ ps) = (codes "context " ++ key_text p.0 ++ codes " = " ++ slot_text order p.1 ++ codes "\n") ++ context_text order ps

abbrev pub object_at : Names → List ℕ → Option Object → List ℕ
object_at names order None = []
object_at names order (Some x) = object_text names order x

-- the objects from number k on
abbrev pub objects_text : Names → List ℕ → World → ℕ → List ℕ → List ℕ
objects_text names order w k [] = []
objects_text names order w k (o ∷ os) =
    (codes "object " ++ decimal k ++ codes " = " ++ object_at names order (slice_get w.objects o) ++ codes "\n") ++ objects_text names order w (k + 1) os

-- all of it, where the objects have the numbers of that order
abbrev pub world_text : Names → List ℕ → World → List ℕ
world_text names order w = lines_text w.lines ++ recorders_text order names.recorders w.statics ++ context_text order w.context ++ objects_text names order w 0 order
