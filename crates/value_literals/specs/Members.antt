-- What the members of a recording's class are, in the pool that they filled.
use Rattle.std.specs.Prelude.{◌≡◌, ℕ, zero, suc, ◌+◌, min, List, [], ◌∷◌, ◌++◌, length, codes}
use Rattle.item_types.specs.declared.decl.Names.{Names}
use Rattle.class_pool.specs.declared.entry.Entry.{Entry}
use Rattle.class_pool.specs.declared.shown.Shown.TheVariants as shown
use Rattle.class_pool.specs.declared.class.Member.{Member}
use Rattle.class_pool.specs.declared.flags.Flags.{Flags}
use Rattle.class_pool.specs.declared.class.Attribute.TheVariants as attribute
use Rattle.class_pool.specs.declared.class.Code.{roll-Code}
use Rattle.class_pool.specs.Showing.{Holds}
use Rattle.class_code.specs.Opcodes.{size}
use Rattle.class_code.specs.Encoded.{encoded}
use Rattle.recording_units.specs.declared.types.Used.{Used}
use Rattle.recording_units.specs.declared.types.Piece.{Piece}
use Rattle.value_literals.specs.declared.op.Op.{Op}
use Rattle.value_literals.specs.declared.op.Op.TheVariants.{Plain, Naming}
use Rattle.recording_units.specs.Units.{Walked}
use Rattle.value_literals.specs.Code.{number_name, of_class, kind_class, units_depth}
use Rattle.value_literals.specs.Emitted.{private_static, public_static, Parts, run_descriptor, part_name, run_code, part, parts_count, part_code}

abbrev pub op_size : Op → ℕ
op_size (Plain o) = size o
op_size (Naming o w) = size o

abbrev pub ops_size : List Op → ℕ
ops_size [] = 0
ops_size (o ∷ ops) = op_size o + ops_size ops

-- these bytes are the instruction, an index that holds what it names behind it
abbrev pub IsOp : Op → List ℕ → List Entry → Type 0
IsOp (Plain o) bytes fs = bytes ≡ encoded (record { opcode = o; operand = 0 })
IsOp (Naming o w) bytes fs = (i : ℕ) × (bytes ≡ encoded (record { opcode = o; operand = i })) × Holds fs i w

abbrev pub IsCode : List Op → List ℕ → List Entry → Type 0
IsCode [] bytes fs = bytes ≡ []
IsCode (o ∷ ops) bytes fs = (a : List ℕ) × (rest : List ℕ) × (bytes ≡ a ++ rest) × IsOp o a fs × IsCode ops rest fs

abbrev pub made_field : ℕ × ℕ → Member
made_field x = record { flags = private_static; name = x.0; descriptor = x.1; attributes = [] }

abbrev pub IsField : Names → ℕ → Used → Member → List Entry → Type 0
IsField names n u m fs = (x : ℕ × ℕ) × (m ≡ made_field x) × Holds fs x.0 (shown.Text (number_name n)) × Holds fs x.1 (shown.Text (of_class (kind_class names u.kind)))

abbrev pub AreFields : Names → ℕ → List Used → List Member → List Entry → Type 0
AreFields names n [] ms fs = ms ≡ []
AreFields names n (u ∷ us) ms fs = (m : Member) × (rest : List Member) × (ms ≡ m ∷ rest) × IsField names n u m fs × AreFields names (n + 1) us rest fs

abbrev pub made_method : Flags → ℕ → ℕ × ℕ × ℕ × List ℕ → Member
made_method flags stack x =
    record { flags = flags; name = x.0; descriptor = x.1; attributes = attribute.Coded x.2 (roll-Code (record { max_stack = stack; max_locals = 1; code = x.3; catches = []; attributes = [] })) ∷ [] }

abbrev pub IsMethod : Flags → List ℕ → ℕ → List Op → Member → List Entry → Type 0
IsMethod flags text stack ops m fs =
    (x : ℕ × ℕ × ℕ × List ℕ) × (m ≡ made_method flags stack x) × Holds fs x.0 (shown.Text text) × Holds fs x.1 (shown.Text run_descriptor) × Holds fs x.2 (shown.Text (codes "Code")) × (length x.3 ≡ ops_size ops) × IsCode ops x.3 fs

abbrev pub IsPart : Names → List ℕ → List Piece → ℕ → Member → List Entry → Type 0
IsPart names class us j = IsMethod private_static (part_name j) (units_depth (part us j)) (part_code names class (part us j))

abbrev pub AreParts : Names → List ℕ → List Piece → ℕ → ℕ → List Member → List Entry → Type 0
AreParts names class us j zero ms fs = ms ≡ []
AreParts names class us j (suc n) ms fs = (m : Member) × (rest : List Member) × (ms ≡ m ∷ rest) × IsPart names class us j m fs × AreParts names class us (j + 1) n rest fs

abbrev pub IsRun : List ℕ → ℕ → Member → List Entry → Type 0
IsRun class count = IsMethod public_static (codes "run") (min 1 count) (run_code class 0 count)

abbrev pub AreMembers : Names → List ℕ → Walked → Parts → List Entry → Type 0
AreMembers names class w p fs =
    AreFields names 0 w.0 p.0 fs × ((run : Member) × (parts : List Member) × (p.1 ≡ run ∷ parts) × IsRun class (parts_count w.1) run fs × AreParts names class w.1 0 (parts_count w.1) parts fs)
