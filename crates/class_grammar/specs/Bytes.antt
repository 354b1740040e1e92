-- The bytes of a class, part by part (JVMS 4.1, 4.4 to 4.7). A count too large for its place is cut; a class that has bytes has none.
use Rattle.std.specs.Prelude.{ℕ, ◌+◌, ◌%◌, ◌/◌, List, [], ◌∷◌, ◌++◌, length}
use Rattle.std.specs.Int.{w16, w32, w64, to_be_bytes, cast_unsigned}
use Rattle.std.specs.List.{flat_map}
use Rattle.class_pool.specs.Modified.{modified}
use Rattle.class_pool.specs.declared.entry.Entry.{Entry}
use Rattle.class_pool.specs.declared.entry.Entry.TheVariants as entry
use Rattle.class_pool.specs.declared.class.Attribute.{Attribute, fold-Attribute}
use Rattle.class_pool.specs.declared.class.Attribute.TheOpen.{Attribute-F, Code-F}
use Rattle.class_pool.specs.declared.class.Code.{Code, fold-Code}
use Rattle.class_pool.specs.declared.class.CatchRow.{CatchRow}
use Rattle.class_pool.specs.declared.class.Member.{Member}
use Rattle.class_pool.specs.declared.class.Class.{Class}
use Rattle.class_pool.specs.declared.tag.Tag.TheVariants as tag
use Rattle.class_pool.specs.Tags.{byte_of}

abbrev pub u2 : ℕ → List ℕ
u2 n = to_be_bytes w16 (n % 65536)

abbrev pub u4 : ℕ → List ℕ
u4 n = to_be_bytes w32 (n % 0x1_0000_0000)

abbrev pub counted : List ℕ → List ℕ
counted bytes = u4 (length bytes) ++ bytes

-- the entry's tag, and what follows it; a gap has no bytes
abbrev pub entry_bytes : Entry → List ℕ
entry_bytes (entry.Utf8 t) = byte_of tag.Utf8 ∷ [] ++ (u2 (length (modified t)) ++ modified t)
entry_bytes (entry.Integer n) = byte_of tag.Integer ∷ [] ++ u4 n
entry_bytes (entry.Float n) = byte_of tag.Float ∷ [] ++ u4 n
entry_bytes (entry.Long n) = byte_of tag.Long ∷ [] ++ (u4 (cast_unsigned w64 n / 0x1_0000_0000) ++ u4 (cast_unsigned w64 n % 0x1_0000_0000))
entry_bytes (entry.Double n) = byte_of tag.Double ∷ [] ++ (u4 (n / 0x1_0000_0000) ++ u4 (n % 0x1_0000_0000))
entry_bytes (entry.Class n) = byte_of tag.Class ∷ [] ++ u2 n
entry_bytes (entry.Str n) = byte_of tag.Str ∷ [] ++ u2 n
entry_bytes (entry.Field a b) = byte_of tag.Field ∷ [] ++ (u2 a ++ u2 b)
entry_bytes (entry.Method a b) = byte_of tag.Method ∷ [] ++ (u2 a ++ u2 b)
entry_bytes (entry.Interface a b) = byte_of tag.Interface ∷ [] ++ (u2 a ++ u2 b)
entry_bytes (entry.NameType a b) = byte_of tag.NameType ∷ [] ++ (u2 a ++ u2 b)
entry_bytes entry.Gap = []

abbrev pub pool_bytes : List Entry → List ℕ
pool_bytes es = u2 (length es + 1) ++ flat_map entry_bytes es

abbrev pub row_bytes : CatchRow → List ℕ
row_bytes r = u2 r.start ++ (u2 r.end ++ (u2 r.handler ++ u2 r.caught))

abbrev pub attribute_step : Attribute-F (List ℕ) (List ℕ) → List ℕ
attribute_step (Attribute-F.Raw name bytes) = u2 name ++ counted bytes
attribute_step (Attribute-F.Coded name code) = u2 name ++ counted code

abbrev pub code_step : Code-F (List ℕ) (List ℕ) → List ℕ
code_step c = u2 c.max_stack ++ (u2 c.max_locals ++ (counted c.code ++ ((u2 (length c.catches) ++ flat_map row_bytes c.catches) ++ (u2 (length c.attributes) ++ flat_map (λ bytes. bytes) c.attributes))))

abbrev pub attribute_bytes : Attribute → List ℕ
attribute_bytes = fold-Attribute (List ℕ) (List ℕ) attribute_step code_step

abbrev pub code_bytes : Code → List ℕ
code_bytes = fold-Code (List ℕ) (List ℕ) attribute_step code_step

abbrev pub attributes_bytes : List Attribute → List ℕ
attributes_bytes parts = u2 (length parts) ++ flat_map attribute_bytes parts

abbrev pub member_bytes : Member → List ℕ
member_bytes m = u2 m.flags.bits ++ (u2 m.name ++ (u2 m.descriptor ++ attributes_bytes m.attributes))

abbrev pub members_bytes : List Member → List ℕ
members_bytes ms = u2 (length ms) ++ flat_map member_bytes ms

abbrev pub interfaces_bytes : List ℕ → List ℕ
interfaces_bytes ns = u2 (length ns) ++ flat_map u2 ns

abbrev pub class_bytes : Class → List ℕ
class_bytes c = u4 0xcafe_babe ++ (u2 0 ++ (u2 c.major ++ (pool_bytes c.pool ++ (u2 c.flags.bits ++ (u2 c.this ++ (u2 c.parent ++ (interfaces_bytes c.interfaces ++ (members_bytes c.fields ++ (members_bytes c.methods ++ attributes_bytes c.attributes)))))))))
