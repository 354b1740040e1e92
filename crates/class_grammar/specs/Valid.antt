-- Which classes have bytes that spell them, by conditions (JVMS 4.1, 4.4 to 4.7).
use Rattle.std.specs.Prelude.{◌≡◌, ℕ, ◌+◌, ◌<◌, ◌≤◌, Bool, true, false, ◌||◌, not, ◌==◌, List, [], ◌∷◌, ◌++◌, length, FitsSigned}
use Rattle.std.specs.Int.{w64}
use Rattle.std.specs.List.{All, list_any}
use Rattle.std.specs.Str.{IsUtf8}
use Rattle.class_pool.specs.Modified.{modified}
use Rattle.class_pool.specs.Entries.{entry_at, is_utf8, is_class, bad}
use Rattle.class_pool.specs.declared.entry.Entry.{Entry}
use Rattle.class_pool.specs.declared.entry.Entry.TheVariants as entry
use Rattle.class_pool.specs.declared.class.Attribute.{Attribute, out-Attribute}
use Rattle.class_pool.specs.declared.class.Attribute.TheOpen.{Attribute-F, Code-F}
use Rattle.class_pool.specs.declared.class.Code.{Code, out-Code}
use Rattle.class_pool.specs.declared.class.CatchRow.{CatchRow}
use Rattle.class_pool.specs.declared.class.Member.{Member}
use Rattle.class_pool.specs.declared.class.Class.{Class}
use Rattle.class_grammar.specs.Grammar.{is_code_text, is_coded}
use Rattle.class_grammar.specs.Bytes.{code_bytes}

-- fits two bytes
abbrev pub Small : ℕ → Type 0
Small n = n < 65536

abbrev pub Fits4 : ℕ → Type 0
Fits4 n = n < 0x1_0000_0000

-- a gap behind each long and double, and nowhere else; numbers and texts that fit their bytes
abbrev pub IsFormed : List Entry → Type 0
IsFormed [] = Unit {0}
IsFormed (entry.Utf8 t ∷ es) = (IsUtf8 t × Small (length (modified t))) × IsFormed es
IsFormed (entry.Integer n ∷ es) = Fits4 n × IsFormed es
IsFormed (entry.Float n ∷ es) = Fits4 n × IsFormed es
IsFormed (entry.Class n ∷ es) = Small n × IsFormed es
IsFormed (entry.Str n ∷ es) = Small n × IsFormed es
IsFormed (entry.Field a b ∷ es) = (Small a × Small b) × IsFormed es
IsFormed (entry.Method a b ∷ es) = (Small a × Small b) × IsFormed es
IsFormed (entry.Interface a b ∷ es) = (Small a × Small b) × IsFormed es
IsFormed (entry.NameType a b ∷ es) = (Small a × Small b) × IsFormed es
IsFormed (entry.Long n ∷ entry.Gap ∷ es) = FitsSigned w64 n × IsFormed es
IsFormed (entry.Double n ∷ entry.Gap ∷ es) = (n < 0x1_0000_0000_0000_0000) × IsFormed es
IsFormed _ = ⊥

pub record IsPool (es : List Entry) : Type 0 where
  pub few : length es < 65535
  pub formed : IsFormed es
  pub refer : bad es ≡ 0

pub record TextAt (es : List Entry) (n : ℕ) : Type 0 where
  pub small : Small n
  pub is : is_utf8 (entry_at es n) ≡ true

-- ---- attributes

-- an attribute that is kept as it stands
abbrev pub RawForm : List Entry → Attribute-F Attribute Code → Type 0
RawForm es (Attribute-F.Raw name bytes) = TextAt es name × Fits4 (length bytes)
RawForm es (Attribute-F.Coded name c) = ⊥

abbrev pub AreRaw : List Entry → List Attribute → Type 0
AreRaw es [] = Unit {0}
AreRaw es (a ∷ parts) = RawForm es (out-Attribute a) × AreRaw es parts

pub record IsRow (r : CatchRow) : Type 0 where
  pub start : Small r.start
  pub end : Small r.end
  pub handler : Small r.handler
  pub caught : Small r.caught

abbrev pub AreRows : List CatchRow → Type 0
AreRows [] = Unit {0}
AreRows (r ∷ rows) = IsRow r × AreRows rows

pub record IsCode (es : List Entry) (c : Code) : Type 0 where
  pub stack : Small (out-Code c).max_stack
  pub locals : Small (out-Code c).max_locals
  pub some : 1 ≤ length (out-Code c).code
  pub few : length (out-Code c).code < 65536
  pub rows : AreRows (out-Code c).catches
  pub few_rows : Small (length (out-Code c).catches)
  pub raws : AreRaw es (out-Code c).attributes
  pub few_raws : Small (length (out-Code c).attributes)
  pub all : Fits4 (length (code_bytes c))

-- an attribute of a method, and whether a code came before
abbrev pub MethodForm : List Entry → Bool → Attribute-F Attribute Code → Type 0
MethodForm es seen (Attribute-F.Raw name bytes) = TextAt es name × (is_code_text (entry_at es name) ≡ false) × Fits4 (length bytes)
MethodForm es seen (Attribute-F.Coded name c) = TextAt es name × (is_code_text (entry_at es name) ≡ true) × (seen ≡ false) × IsCode es c

abbrev pub AreOfMethod : List Entry → List Attribute → List Attribute → Type 0
AreOfMethod es found [] = Unit {0}
AreOfMethod es found (a ∷ parts) = MethodForm es (list_any is_coded found) (out-Attribute a) × AreOfMethod es (found ++ a ∷ []) parts

-- ---- members

pub record IsField (es : List Entry) (m : Member) : Type 0 where
  pub flags : Small m.flags.bits
  pub name : TextAt es m.name
  pub descriptor : TextAt es m.descriptor
  pub raws : AreRaw es m.attributes
  pub few : Small (length m.attributes)

pub record IsMethod (es : List Entry) (m : Member) : Type 0 where
  pub flags : Small m.flags.bits
  pub name : TextAt es m.name
  pub descriptor : TextAt es m.descriptor
  pub parts : AreOfMethod es [] m.attributes
  pub few : Small (length m.attributes)

abbrev pub AreFields : List Entry → List Member → Type 0
AreFields es [] = Unit {0}
AreFields es (m ∷ ms) = IsField es m × AreFields es ms

abbrev pub AreMethods : List Entry → List Member → Type 0
AreMethods es [] = Unit {0}
AreMethods es (m ∷ ms) = IsMethod es m × AreMethods es ms

abbrev pub AreClasses : List Entry → List ℕ → Type 0
AreClasses es [] = Unit {0}
AreClasses es (n ∷ ns) = (Small n × (is_class (entry_at es n) ≡ true)) × AreClasses es ns

pub record IsValid (c : Class) : Type 0 where
  pub least_major : 49 ≤ c.major
  pub most_major : c.major ≤ 65
  pub pool : IsPool c.pool
  pub flags : Small c.flags.bits
  pub this : Small c.this × (is_class (entry_at c.pool c.this) ≡ true)
  pub parent : Small c.parent × ((c.parent == 0 || is_class (entry_at c.pool c.parent)) ≡ true)
  pub interfaces : AreClasses c.pool c.interfaces
  pub few_interfaces : Small (length c.interfaces)
  pub fields : AreFields c.pool c.fields
  pub few_fields : Small (length c.fields)
  pub methods : AreMethods c.pool c.methods
  pub few_methods : Small (length c.methods)
  pub raws : AreRaw c.pool c.attributes
  pub few_raws : Small (length c.attributes)

-- each entry's own text or number is in its range
abbrev pub OwnFits : Entry → Type 0
OwnFits (entry.Utf8 t) = IsUtf8 t × Small (length (modified t))
OwnFits (entry.Integer n) = Fits4 n
OwnFits (entry.Float n) = Fits4 n
OwnFits (entry.Long n) = FitsSigned w64 n
OwnFits (entry.Double n) = n < 0x1_0000_0000_0000_0000
OwnFits _ = Unit {0}

abbrev pub EachFits : List Entry → Type 0
EachFits [] = Unit {0}
EachFits (e ∷ es) = OwnFits e × EachFits es
