-- The fields and methods of a recording's class, and the pool as they fill it.
use Rattle.std.specs.Prelude.{◌≡◌, ℕ, zero, suc, ◌+◌, ◌*◌, ◌/◌, min, List, [], ◌∷◌, ◌++◌, length, take, drop, Option, Some, None, Result, Ok, Err, codes, ⊤}
use Rattle.std.specs.List.{flat_map}
use Rattle.std.specs.Fmt.{decimal}
use Rattle.item_types.specs.declared.decl.Names.{Names}
use Rattle.recorder_proxy.specs.declared.call.Recording.{Recording}
use Rattle.class_pool.specs.declared.entry.Entry.{Entry}
use Rattle.class_pool.specs.declared.shown.Shown.{Shown}
use Rattle.class_pool.specs.declared.shown.Shown.TheVariants as shown
use Rattle.class_pool.specs.declared.pool_err.PoolErr.{PoolErr}
use Rattle.class_pool.specs.declared.pool_err.PoolErr.TheVariants as err
use Rattle.class_pool.specs.declared.class.Member.{Member}
use Rattle.class_pool.specs.declared.class.Attribute.TheVariants as attribute
use Rattle.class_pool.specs.declared.class.Code.{roll-Code}
use Rattle.class_pool.specs.Enter.{enter}
use Rattle.class_pool.specs.declared.flags.Flags.{Flags}
use Rattle.class_code.specs.Encoded.{encoded}
use Rattle.class_code.specs.declared.opcode.Opcode.{Opcode}
use Rattle.class_code.specs.declared.opcode.Opcode.TheVariants as op
use Rattle.recording_units.specs.declared.types.Used.{Used}
use Rattle.recording_units.specs.declared.types.Piece.{Piece}
use Rattle.value_literals.specs.declared.op.Op.{Op}
use Rattle.value_literals.specs.declared.op.Op.TheVariants.{Plain, Naming}
use Rattle.recording_units.specs.Units.{Walked, calls_units}
use Rattle.value_literals.specs.Code.{number_name, of_class, kind_class, unit_code, units_depth}

-- what fills a pool and gives a value; None where an index would pass 65,534
abbrev pub Filling : Type 0 → Type 0
Filling A = List Entry → Option (A × List Entry)

abbrev pub only : {A : Type 0} → A → Filling A
only a es = Some (a, es)

abbrev pub then_with : {A B : Type 0} → Option (A × List Entry) → (A → Filling B) → Option (B × List Entry)
then_with None f = None
then_with (Some r) f = f r.0 r.1

abbrev pub then : {A B : Type 0} → Filling A → (A → Filling B) → Filling B
then m f es = then_with (m es) f

abbrev pub each : {X A : Type 0} → (X → Filling A) → List X → Filling (List A)
each f [] = only []
each f (x ∷ xs) = then (f x) (λ a. then (each f xs) (λ rest. only (a ∷ rest)))

abbrev pub joined : {X : Type 0} → (X → Filling (List ℕ)) → List X → Filling (List ℕ)
joined f [] = only []
joined f (x ∷ xs) = then (f x) (λ a. then (joined f xs) (λ rest. only (a ++ rest)))

-- an instruction's bytes
abbrev pub op_bytes : Op → Filling (List ℕ)
op_bytes (Plain o) = only (encoded (record { opcode = o; operand = 0 }))
op_bytes (Naming o w) = then (enter w) (λ i. only (encoded (record { opcode = o; operand = i })))

abbrev pub naming : Opcode → Shown → Op
naming o w = Naming o w

abbrev pub code_bytes : List Op → Filling (List ℕ)
code_bytes = joined op_bytes

-- ---- flags (JVMS 4.5, 4.6)

abbrev pub private_static : Flags
private_static = record { bits = 0x000a }

abbrev pub public_static : Flags
public_static = record { bits = 0x0009 }

-- ---- fields

abbrev pub text_index : List ℕ → Filling ℕ
text_index t = enter (shown.Text t)

abbrev pub field_descriptor : ℕ → List ℕ → Filling Member
field_descriptor name text = then (text_index text) (λ descriptor. only (record { flags = private_static; name = name; descriptor = descriptor; attributes = [] }))

abbrev pub field_member : Names → ℕ → Used → Filling Member
field_member names n u = then (text_index (number_name n)) (λ name. field_descriptor name (of_class (kind_class names u.kind)))

abbrev pub field_members : Names → ℕ → List Used → Filling (List Member)
field_members names n [] = only []
field_members names n (u ∷ us) = then (field_member names n u) (λ m. then (field_members names (n + 1) us) (λ ms. only (m ∷ ms)))

-- ---- methods

abbrev pub run_descriptor : List ℕ
run_descriptor = codes "(Lio/quarkus/runtime/StartupContext;)V"

abbrev pub coded : Flags → ℕ → ℕ → ℕ → ℕ → List Op → Filling Member
coded flags name descriptor code stack ops =
    then (code_bytes ops) (λ bytes.
    only (record { flags = flags; name = name; descriptor = descriptor; attributes = attribute.Coded code (roll-Code (record { max_stack = stack; max_locals = 1; code = bytes; catches = []; attributes = [] })) ∷ [] }))

abbrev pub with_descriptor : Flags → ℕ → ℕ → ℕ → List Op → Filling Member
with_descriptor flags name descriptor stack ops = then (text_index (codes "Code")) (λ code. coded flags name descriptor code stack ops)

abbrev pub with_name : Flags → ℕ → ℕ → List Op → Filling Member
with_name flags name stack ops = then (text_index run_descriptor) (λ descriptor. with_descriptor flags name descriptor stack ops)

abbrev pub method_member : Flags → List ℕ → ℕ → List Op → Filling Member
method_member flags text stack ops = then (text_index text) (λ name. with_name flags name stack ops)

abbrev pub part_name : ℕ → List ℕ
part_name j = codes "part$" ++ decimal j

abbrev pub part_of : List ℕ → ℕ → Shown
part_of class j = shown.Method class (part_name j) run_descriptor

abbrev pub run_code : List ℕ → ℕ → ℕ → List Op
run_code class j zero = Plain op.Return ∷ []
run_code class j (suc n) = Plain op.Aload0 ∷ Naming op.Invokestatic (part_of class j) ∷ run_code class (j + 1) n

abbrev pub part : List Piece → ℕ → List Piece
part us j = take 200 (drop (200 * j) us)

abbrev pub parts_count : List Piece → ℕ
parts_count us = (length us + 199) / 200

abbrev pub part_code : Names → List ℕ → List Piece → List Op
part_code names class us = flat_map (unit_code names class) us ++ Plain op.Return ∷ []

abbrev pub part_member : Names → List ℕ → List Piece → ℕ → Filling Member
part_member names class us j = method_member private_static (part_name j) (units_depth (part us j)) (part_code names class (part us j))

abbrev pub part_members : Names → List ℕ → List Piece → ℕ → ℕ → Filling (List Member)
part_members names class us j zero = only []
part_members names class us j (suc n) = then (part_member names class us j) (λ m. then (part_members names class us (j + 1) n) (λ ms. only (m ∷ ms)))

abbrev pub run_member : List ℕ → ℕ → Filling Member
run_member class count = method_member public_static (codes "run") (min 1 count) (run_code class 0 count)

-- ---- the whole

abbrev pub Parts : Type 0
Parts = List Member × List Member

abbrev pub methods_of : Names → List ℕ → List Piece → Filling (List Member)
methods_of names class us =
    then (run_member class (parts_count us)) (λ run.
    then (part_members names class us 0 (parts_count us)) (λ parts.
    only (run ∷ parts)))

abbrev pub of_units : Names → List ℕ → Walked → Filling Parts
of_units names class w =
    then (field_members names 0 w.0) (λ fields.
    then (methods_of names class w.1) (λ methods.
    only (fields, methods)))

abbrev pub code_of : Names → Recording → List ℕ → Filling Parts
code_of names r class = of_units names class (calls_units r.step 0 r.calls [])

-- what a call did that is given up where it fails
abbrev pub Does : {A : Type 0} → Option (A × List Entry) → Result A PoolErr → List Entry → Type 0
Does outcome (Ok a) new = outcome ≡ Some (a, new)
Does outcome (Err err.Full) new = outcome ≡ None
Does outcome (Err err.Memory) new = Unit {0}

-- what was made before goes in front
abbrev pub front : {A : Type 0} → List A → Option (List A × List Entry) → Option (List A × List Entry)
front before None = None
front before (Some r) = Some (before ++ r.0, r.1)

-- the same, of a call that appends
abbrev pub Appends : {A : Type 0} → Option (List A × List Entry) → Result ⊤ PoolErr → List A → List A → List Entry → Type 0
Appends outcome (Ok u) before after new = front before outcome ≡ Some (after, new)
Appends outcome (Err err.Full) before after new = outcome ≡ None
Appends outcome (Err err.Memory) before after new = Unit {0}
