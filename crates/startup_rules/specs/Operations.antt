-- The operations of methods on a world, each with its checks; how many turns there may be in all is an argument. This project's own.
use Rattle.std.specs.Prelude.{ℕ, ℤ, pos, ◌+◌, ◌==◌, Bool, true, false, not, nat_lt, if◌then◌else◌, List, [], ◌∷◌, ◌++◌, length, position, set, slice_get, slice_index_or, codes, Option, Some, None, unwrap_or, Result, Ok, Err}
use Rattle.std.specs.Fmt.{signed_decimal}
use Rattle.std.specs.Str.{bytes_eq}
use Rattle.item_types.specs.Modified.{modified_len}
use Rattle.item_types.specs.Named.{fields_of, recorder_fields, place_of, static_place}
use Rattle.item_types.specs.Printed.{bool_text}
use Rattle.item_types.specs.declared.decl.BeanDecl.{BeanDecl}
use Rattle.item_types.specs.declared.decl.Names.{Names}
use Rattle.operators.specs.Found.{arranged}
use Rattle.operators.specs.Operations as on
use Rattle.operators.specs.Operations.{Operand}
use Rattle.operators.specs.declared.operand.Operand.TheVariants as seen
use Rattle.operators.specs.declared.operation.Added.{Added}
use Rattle.operators.specs.declared.operation.Added.TheVariants as sum
use Rattle.startup_rules.specs.Worlds.{World, parts, entered, list_added, field_set}
use Rattle.startup_rules.specs.declared.slot.Slot.{Slot}
use Rattle.startup_rules.specs.declared.slot.Slot.TheVariants as slot
use Rattle.startup_rules.specs.declared.slot.Object.{Object}
use Rattle.startup_rules.specs.declared.slot.Object.TheVariants as object
use Rattle.startup_rules.specs.declared.fault.MethodFault.{MethodFault}
use Rattle.startup_rules.specs.declared.fault.MethodFault.TheVariants.{Said, Kind, TooManyTurns, TooManyCells, TextTooLong, TooMuchText}
use Rattle.startup_rules.specs.declared.op.Op.{Op}
use Rattle.startup_rules.specs.declared.op.Op.TheVariants as op

-- what an operation stands in: the declared names, the recorder whose method it is of, and how many turns may be spent in all
pub record Within : Type 0 where
  pub names : Names
  pub recorder : ℕ
  pub turns : ℕ

-- a value, or the fault; each fault is checked before the effect, so the world is as it was then
abbrev pub Checked : Type 0 → Type 0
Checked A = Result A MethodFault

-- a value and the world after it, or the fault
abbrev pub Effect : Type 0
Effect = World → Checked (Slot × World)

abbrev pub then_ok : {A B : Type 0} → Checked A → (A → Checked B) → Checked B
then_ok (Ok a) f = f a
then_ok (Err e) f = Err e

-- the world stays
abbrev pub answer : Checked Slot → Effect
answer r w = then_ok r (λ v. Ok (v, w))

-- what is there, or the fault that it has another kind
abbrev pub there : {A : Type 0} → ℕ → Option A → Checked A
there at (Some x) = Ok x
there at None = Err (Kind at)

-- What is spent

abbrev pub turn : ℕ → Effect
turn turns w = if nat_lt w.turns turns then Ok (slot.Null, record w { turns = w.turns + 1 }) else Err TooManyTurns

-- of 1,000,000 cells
abbrev pub pay_cells : ℕ → World → Checked World
pay_cells n w = if nat_lt 1000000 (w.cells + n) then Err TooManyCells else Ok (record w { cells = w.cells + n })

-- of 16,777,216 bytes of text
abbrev pub pay_text : ℕ → World → Checked World
pay_text n w = if nat_lt 16777216 (w.text + n) then Err TooMuchText else Ok (record w { text = w.text + n })

-- Objects

abbrev pub object_of : World → Slot → Option Object
object_of w (slot.Obj o) = slice_get w.objects o
object_of w _ = None

abbrev pub items_of : Option Object → Option (List Slot)
items_of (Some (object.List items)) = Some items
items_of _ = None

-- the elements of a list; another value has none
abbrev pub elements : World → Slot → List Slot
elements w v = unwrap_or (items_of (object_of w v)) []

abbrev pub number : Slot → ℕ
number (slot.Obj o) = o
number _ = 0

-- the declared fields of a bean or recorder; a list has none
abbrev pub declared : Names → Object → List (List ℕ)
declared names (object.List items) = []
declared names (object.Bean k fields) = fields_of (slice_get names.beans k)
declared names (object.Recorder k fields) = recorder_fields (slice_get names.recorders k)

-- Operations on values

-- what a sum, a comparison or a length sees of a list
abbrev pub list_operand : Option (List Slot) → Operand
list_operand (Some items) = seen.List (pos (length items))
list_operand None = seen.Other

-- what they see of a slot
abbrev pub operand : World → Slot → Operand
operand w slot.Null = seen.Null
operand w (slot.Bool b) = seen.Bool b
operand w (slot.Long n) = seen.Long n
operand w (slot.Str t) = seen.Str t
operand w (slot.Obj o) = list_operand (items_of (slice_get w.objects o))

-- a join is paid by the bytes of its whole result
abbrev pub summed : ℕ → Added → Effect
summed at (sum.Long n) w = Ok (slot.Long n, w)
summed at (sum.Str t) w = then_ok (pay_text (modified_len t) w) (λ paid. Ok (slot.Str t, paid))
summed at sum.WrongKind w = Err (Kind at)
summed at sum.TooLong w = Err TextTooLong

abbrev pub plus : ℕ → Slot → Slot → Effect
plus at a b w = summed at (on.plus (operand w a) (operand w b)) w

abbrev pub truth_value : ℕ → Option Bool → Checked Slot
truth_value at b = then_ok (there at b) (λ b. Ok (slot.Bool b))

abbrev pub less : ℕ → Slot → Slot → World → Checked Slot
less at a b w = truth_value at (on.less (operand w a) (operand w b))

-- the same object, or both null, equal truth values, numbers or texts
abbrev pub same : World → Slot → Slot → Bool
same w (slot.Obj a) (slot.Obj b) = a == b
same w a b = on.same_plain (operand w a) (operand w b)

abbrev pub truth : ℕ → Slot → World → Checked Slot
truth at v w = truth_value at (on.truth (operand w v))

abbrev pub negated : ℕ → Slot → World → Checked Slot
negated at v w = then_ok (there at (on.truth (operand w v))) (λ b. Ok (slot.Bool (not b)))

abbrev pub count : ℕ → Slot → World → Checked Slot
count at v w = then_ok (there at (on.len (operand w v))) (λ n. Ok (slot.Long n))

abbrev pub said : ℕ → Slot → Checked Slot
said at (slot.Str t) = Err (Said t)
said at _ = Err (Kind at)

-- the list whose elements are gone through
abbrev pub rows : ℕ → Slot → World → Checked Slot
rows at v w = then_ok (there at (items_of (object_of w v))) (λ items. Ok v)

-- Fields

-- a field that the object has, by its place
abbrev pub held : ℕ → Option ℕ → ℕ → Checked ℕ
held at (Some k) slots = if nat_lt k slots then Ok k else Err (Kind at)
held at None slots = Err (Kind at)

abbrev pub field_place : Names → ℕ → List ℕ → Object → Checked ℕ
field_place names at f x = held at (place_of f (declared names x)) (length (parts x))

-- the object, and the place of its field
abbrev pub field : Names → ℕ → List ℕ → Slot → World → Checked (Object × ℕ)
field names at f v w = then_ok (there at (object_of w v)) (λ x. then_ok (field_place names at f x) (λ k. Ok (x, k)))

abbrev pub read : Names → ℕ → List ℕ → Slot → World → Checked Slot
read names at f v w = then_ok (field names at f v w) (λ r. Ok (slice_index_or (parts r.0) r.1 slot.Null))

abbrev pub write : Names → ℕ → List ℕ → Slot → Slot → Effect
write names at f o v w = then_ok (field names at f o w) (λ r. Ok (slot.Null, field_set (number o) r.1 v w))

-- Lists and new objects

-- a cell is paid
abbrev pub add : ℕ → Slot → Slot → Effect
add at l v w = then_ok (there at (items_of (object_of w l))) (λ items. then_ok (pay_cells 1 w) (λ paid. Ok (slot.Null, list_added (number l) v paid)))

-- a cell is paid, and one for each part
abbrev pub made : Object → Effect
made x w = then_ok (pay_cells (1 + length (parts x)) w) (λ paid. Ok (slot.Obj (length w.objects), (entered x paid).1))

-- the number of the bean of that name
abbrev pub bean_of : Names → List ℕ → ℕ
bean_of names name = unwrap_or (position (λ (b : BeanDecl). bytes_eq b.name name) names.beans) (length names.beans)

abbrev pub bean : Names → List ℕ → List (List ℕ × Slot) → Object
bean names name written = object.Bean (bean_of names name) (arranged slot.Null (fields_of (slice_get names.beans (bean_of names name))) written)

-- Statics of the recorder

abbrev pub statics_in : Within → World → List Slot
statics_in cx w = unwrap_or (slice_get w.statics cx.recorder) []

abbrev pub static_at : List Slot → Option ℕ → Slot
static_at statics None = slot.Null
static_at statics (Some k) = slice_index_or statics k slot.Null

abbrev pub static_of : Within → List ℕ → World → Slot
static_of cx f w = static_at (statics_in cx w) (static_place cx.names cx.recorder f)

abbrev pub set_static : Within → Option ℕ → Slot → World → World
set_static cx None v w = w
set_static cx (Some k) v w = record w { statics = set w.statics cx.recorder (set (statics_in cx w) k v) }

abbrev pub with_static : Within → List ℕ → Slot → World → World
with_static cx f v w = set_static cx (static_place cx.names cx.recorder f) v w

-- Lines

abbrev pub line_of : ℕ → Slot → Checked (List ℕ)
line_of at slot.Null = Ok (codes "null")
line_of at (slot.Bool b) = Ok (bool_text b)
line_of at (slot.Long n) = Ok (signed_decimal n)
line_of at (slot.Str t) = Ok t
line_of at (slot.Obj o) = Err (Kind at)

-- the line's bytes are paid, and one more
abbrev pub printed : ℕ → Slot → Effect
printed at v w = then_ok (line_of at v) (λ t. then_ok (pay_text (modified_len t + 1) w) (λ paid. Ok (slot.Null, record paid { lines = w.lines ++ t ∷ [] })))

-- one operation
unfoldable pub effect : Within → Op → Effect
effect cx op.Turn w = turn cx.turns w
effect cx op.LongText w = Err TextTooLong
effect cx (op.GetStatic f) w = Ok (static_of cx f w, w)
effect cx (op.PutStatic v f) w = Ok (slot.Null, with_static cx f v w)
effect cx (op.Plus a b at) w = plus at a b w
effect cx (op.Less a b at) w = answer (less at a b w) w
effect cx (op.Equal a b) w = Ok (slot.Bool (same w a b), w)
effect cx (op.Not v at) w = answer (negated at v w) w
effect cx (op.Len v at) w = answer (count at v w) w
effect cx (op.FieldOf v f at) w = answer (read cx.names at f v w) w
effect cx (op.Truth v at) w = answer (truth at v w) w
effect cx (op.ListOf items) w = made (object.List items) w
effect cx (op.Bean written name) w = made (bean cx.names name written) w
effect cx (op.Set o v f at) w = write cx.names at f o v w
effect cx (op.Add l v at) w = add at l v w
effect cx (op.Print v at) w = printed at v w
effect cx (op.FailWith v at) w = answer (said at v) w
effect cx (op.Rows v at) w = answer (rows at v w) w
