-- The text of a class file, line by line. This project's own.
use Rattle.std.specs.Prelude.{ℕ, zero, suc, ◌+◌, ◌-◌, Bool, true, false, cond, ◌==◌, List, [], ◌∷◌, ◌++◌, length, Option, Some, None, codes}
use Rattle.std.specs.Fmt.{decimal, signed_decimal}
use Rattle.std.specs.Int.{w16, w32, w64, to_be_bytes}
use Rattle.std.specs.List.{flat_map}
use Rattle.item_types.specs.Quoted.{quoted}
use Rattle.class_pool.specs.declared.entry.Entry.{Entry}
use Rattle.class_pool.specs.declared.entry.Entry.TheVariants as entry
use Rattle.class_pool.specs.declared.class.Attribute.{Attribute, out-Attribute}
use Rattle.class_pool.specs.declared.class.Attribute.TheOpen.{Attribute-F}
use Rattle.class_pool.specs.declared.class.Code.{Code, out-Code}
use Rattle.class_pool.specs.declared.class.Member.{Member}
use Rattle.class_pool.specs.declared.class.Class.{Class}
use Rattle.class_code.specs.declared.instruction.Instruction.{Instruction}
use Rattle.class_dump.specs.Names.{hex, text_at, class_at}
use Rattle.class_code.specs.Opcodes.{word, width, size}
use Rattle.class_code.specs.Encoded.{decoded}

abbrev pub line_end : List ℕ
line_end = codes "\n"

-- ---- the head

abbrev pub parent_text : List Entry → ℕ → List ℕ
parent_text pool parent = cond (parent == 0) (codes "-") (class_at pool parent)

abbrev pub head_line : Class → List ℕ
head_line c = codes "class " ++ class_at c.pool c.this ++ codes " major " ++ decimal c.major ++ codes " super " ++ parent_text c.pool c.parent ++ line_end

-- ---- the pool

abbrev pub one_text : List ℕ → ℕ → List ℕ
one_text kind n = kind ++ decimal n

abbrev pub two_text : List ℕ → ℕ → ℕ → List ℕ
two_text kind a b = kind ++ decimal a ++ codes " " ++ decimal b

abbrev pub entry_text : Entry → List ℕ
entry_text (entry.Utf8 t) = codes "utf8 " ++ quoted t
entry_text (entry.Integer n) = codes "integer " ++ hex (to_be_bytes w32 n)
entry_text (entry.Float n) = codes "float " ++ hex (to_be_bytes w32 n)
entry_text (entry.Long n) = codes "long " ++ signed_decimal n
entry_text (entry.Double n) = codes "double " ++ hex (to_be_bytes w64 n)
entry_text (entry.Class n) = one_text (codes "class ") n
entry_text (entry.Str n) = one_text (codes "string ") n
entry_text (entry.Field a b) = two_text (codes "field ") a b
entry_text (entry.Method a b) = two_text (codes "method ") a b
entry_text (entry.Interface a b) = two_text (codes "interface ") a b
entry_text (entry.NameType a b) = two_text (codes "nametype ") a b
entry_text entry.Gap = []

abbrev pub is_gap : Entry → Bool
is_gap entry.Gap = true
is_gap _ = false

-- a line for the entry at index i, and none for a gap
abbrev pub entry_line : ℕ → Entry → List ℕ
entry_line i e = cond (is_gap e) [] (codes "pool " ++ decimal i ++ codes ": " ++ entry_text e ++ line_end)

-- from index i on
abbrev pub pool_lines : ℕ → List Entry → List ℕ
pool_lines i [] = []
pool_lines i (e ∷ es) = entry_line i e ++ pool_lines (i + 1) es

-- ---- code

abbrev pub operand_text : Instruction → List ℕ
operand_text d = cond (width d.opcode == 0) [] (codes " " ++ decimal d.operand)

abbrev pub instruction_line : ℕ → Instruction → List ℕ
instruction_line pc d = codes "  " ++ decimal pc ++ codes ": " ++ word d.opcode ++ operand_text d ++ line_end

-- the bytes that begin with no whole instruction
abbrev pub bytes_line : ℕ → List ℕ → List ℕ
bytes_line pc bytes = codes "  " ++ decimal pc ++ codes ": bytes " ++ hex bytes ++ line_end

-- the lines from pc on, where so many bytes are still of the instruction before
unfoldable pub code_lines : ℕ → ℕ → List ℕ → List ℕ
code_lines inside pc [] = []
code_lines (suc inside) pc (b ∷ bytes) = code_lines inside (pc + 1) bytes
code_lines zero pc (b ∷ bytes) = elim (decoded (b ∷ bytes)) [ None ↦ bytes_line pc (b ∷ bytes) | Some d ↦ instruction_line pc d.0 ++ code_lines (size d.0.opcode - 1) (pc + 1) bytes ]

-- ---- fields, methods and attributes

abbrev pub code_of : Attribute-F Attribute Code → Option Code
code_of (Attribute-F.Raw name bytes) = None
code_of (Attribute-F.Coded name c) = Some c

abbrev pub or_else : Option Code → Option Code → Option Code
or_else None o = o
or_else (Some c) o = Some c

-- the code among the attributes
abbrev pub code_in : List Attribute → Option Code
code_in [] = None
code_in (a ∷ parts) = or_else (code_of (out-Attribute a)) (code_in parts)

abbrev pub flags_text : ℕ → List ℕ
flags_text flags = hex (to_be_bytes w16 flags)

abbrev pub member_text : List ℕ → List Entry → Member → List ℕ
member_text kind pool m = kind ++ flags_text m.flags.bits ++ codes " " ++ text_at pool m.name ++ codes " " ++ text_at pool m.descriptor

abbrev pub field_line : List Entry → Member → List ℕ
field_line pool m = member_text (codes "field ") pool m ++ line_end

abbrev pub code_text : Option Code → List ℕ
code_text None = line_end
code_text (Some c) = codes " stack " ++ decimal (out-Code c).max_stack ++ codes " locals " ++ decimal (out-Code c).max_locals ++ line_end ++ code_lines 0 0 (out-Code c).code

abbrev pub method_lines : List Entry → Member → List ℕ
method_lines pool m = member_text (codes "method ") pool m ++ code_text (code_in m.attributes)

abbrev pub interface_line : List Entry → ℕ → List ℕ
interface_line pool n = codes "interface " ++ class_at pool n ++ line_end

-- a class's own attributes are kept as bytes; a code is none of them
abbrev pub attribute_form : List Entry → Attribute-F Attribute Code → List ℕ
attribute_form pool (Attribute-F.Raw name bytes) = codes "attribute " ++ text_at pool name ++ codes " " ++ decimal (length bytes) ++ line_end
attribute_form pool (Attribute-F.Coded name c) = []

abbrev pub attribute_line : List Entry → Attribute → List ℕ
attribute_line pool a = attribute_form pool (out-Attribute a)

-- ---- the whole

abbrev pub dump_text : Class → List ℕ
dump_text c =
    head_line c ++ pool_lines 1 c.pool ++ flat_map (interface_line c.pool) c.interfaces ++ flat_map (field_line c.pool) c.fields ++ flat_map (method_lines c.pool) c.methods ++ flat_map (attribute_line c.pool) c.attributes
