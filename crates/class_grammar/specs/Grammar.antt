-- The layout of a class file, from front to back, each check where it stands (JVMS 4.1, 4.4 to 4.7). Each line of a layout is a part:
-- the bytes spell a class where they are its parts in order, and they are stuck where an earlier part is spelled and the next isn't.
use Rattle.std.specs.Prelude.{◌≡◌, ℕ, ◌+◌, ◌*◌, ◌<◌, Bool, true, false, ◌&&◌, ◌||◌, not, cond, nat_lt, ◌==◌, List, [], ◌∷◌, ◌++◌, length, Option, Some, None, Result, Ok, Err, codes}
use Rattle.std.specs.Int.{w8, w16, w32, w64, cast_signed}
use Rattle.std.specs.List.{list_any}
use Rattle.std.specs.Str.{bytes_eq}
use Rattle.class_pool.specs.Units.{text_in}
use Rattle.class_pool.specs.declared.entry.Entry.{Entry}
use Rattle.class_pool.specs.declared.entry.Entry.TheVariants as entry
use Rattle.class_pool.specs.declared.class.Attribute.{Attribute, out-Attribute}
use Rattle.class_pool.specs.declared.class.Attribute.TheVariants as attribute
use Rattle.class_pool.specs.declared.class.Attribute.TheOpen.{Attribute-F}
use Rattle.class_pool.specs.declared.class.Code.{Code, roll-Code}
use Rattle.class_pool.specs.declared.class.CatchRow.{CatchRow}
use Rattle.class_pool.specs.declared.class.Member.{Member}
use Rattle.class_pool.specs.declared.class.Class.{Class}
use Rattle.class_pool.specs.declared.flags.Flags.{Flags}
use Rattle.class_pool.specs.declared.tag.Tag.{Tag}
use Rattle.class_pool.specs.declared.tag.Tag.TheVariants as tag
use Rattle.class_pool.specs.Tags.{tag_of}
use Rattle.class_pool.specs.declared.fault.ClassFault.{ClassFault}
use Rattle.class_pool.specs.declared.fault.ClassFault.TheVariants as fault
use Rattle.class_grammar.specs.Layout.{Outcome, place, Layout, number, run, pure, refused, ◌>>=◌, choose, turned, checked, inside, many}
use Rattle.class_pool.specs.Entries.{entry_at, is_utf8, is_class, bad}

-- ---- the pool (JVMS 4.4); i is an entry's index, and no index reaches count

abbrev pub single : Entry → List Entry
single e = e ∷ []

abbrev pub double : Entry → List Entry
double e = e ∷ entry.Gap ∷ []

unfoldable pub utf8 : ℕ → Layout (List Entry)
utf8 i = do
  len ← number w16
  text ← turned (run len) text_in (λ at bytes. fault.Pool i)
  pure (entry.Utf8 text ∷ [])

-- a number of four bytes
unfoldable pub four : (ℕ → Entry) → Layout (List Entry)
four made = do
  n ← number w32
  pure (made n ∷ [])

-- a number of eight bytes, whose entry takes the next index too
unfoldable pub eight : ℕ → ℕ → Layout ℕ
eight i count = do
  high ← number w32
  low ← number w32
  choose (nat_lt (i + 1) count) (pure (high * 0x1_0000_0000 + low)) (refused (fault.Pool i))

unfoldable pub long : ℕ → ℕ → Layout (List Entry)
long i count = do
  n ← eight i count
  pure (entry.Long (cast_signed w64 n) ∷ entry.Gap ∷ [])

unfoldable pub double_of : ℕ → ℕ → Layout (List Entry)
double_of i count = do
  n ← eight i count
  pure (entry.Double n ∷ entry.Gap ∷ [])

-- one index, or two
unfoldable pub one : (ℕ → Entry) → Layout (List Entry)
one made = do
  n ← number w16
  pure (made n ∷ [])

unfoldable pub pair : Layout (ℕ × ℕ)
pair = do
  a ← number w16
  b ← number w16
  pure (a, b)

unfoldable pub two : (ℕ → ℕ → Entry) → Layout (List Entry)
two made = do
  ab ← pair
  pure (made ab.0 ab.1 ∷ [])

-- what follows a tag; a byte that is none goes no way on
unfoldable pub entry_with : ℕ → ℕ → Option Tag → Layout (List Entry)
entry_with i count None = refused (fault.Pool i)
entry_with i count (Some tag.Utf8) = utf8 i
entry_with i count (Some tag.Integer) = four entry.Integer
entry_with i count (Some tag.Float) = four entry.Float
entry_with i count (Some tag.Long) = long i count
entry_with i count (Some tag.Double) = double_of i count
entry_with i count (Some tag.Class) = one entry.Class
entry_with i count (Some tag.Str) = one entry.Str
entry_with i count (Some tag.Field) = two entry.Field
entry_with i count (Some tag.Method) = two entry.Method
entry_with i count (Some tag.Interface) = two entry.Interface
entry_with i count (Some tag.NameType) = two entry.NameType

abbrev pub entry_of : ℕ → ℕ → ℕ → Layout (List Entry)
entry_of i count byte = entry_with i count (tag_of byte)

unfoldable pub entry_from : ℕ → ℕ → Layout (List Entry)
entry_from i count = do
  byte ← number w8
  entry_of i count byte

-- the next entry, where there is one, behind those that were found
unfoldable pub next_entry : ℕ → List Entry → Layout (List Entry)
next_entry count found = choose (nat_lt (length found + 1) count) (entry_from (length found + 1) count) (pure [])

unfoldable pub pool : Layout (List Entry)
pool = do
  count ← checked (number w16) (λ n. not (n == 0)) (λ at n. fault.Pool 0)
  checked (many count [] (next_entry count)) (λ es. bad es == 0) (λ at es. fault.Pool (bad es))

-- ---- indices into it

abbrev pub text_index : List Entry → Layout ℕ
text_index es = checked (number w16) (λ n. is_utf8 (entry_at es n)) (λ at n. fault.Shape at)

abbrev pub class_index : List Entry → Layout ℕ
class_index es = checked (number w16) (λ n. is_class (entry_at es n)) (λ at n. fault.Shape at)

abbrev pub parent_index : List Entry → Layout ℕ
parent_index es = checked (number w16) (λ n. n == 0 || is_class (entry_at es n)) (λ at n. fault.Shape at)

abbrev pub is_code_text : Option Entry → Bool
is_code_text (Some (entry.Utf8 t)) = bytes_eq t (codes "Code")
is_code_text _ = false

-- the classes that are the interfaces
unfoldable pub interface : List Entry → Layout (List ℕ)
interface es = do
  n ← class_index es
  pure (n ∷ [])

unfoldable pub interfaces : List Entry → Layout (List ℕ)
interfaces es = do
  count ← number w16
  many count [] (λ found. interface es)

-- ---- attributes (JVMS 4.7); all but the code of a method are kept as they stand

unfoldable pub raw : List Entry → Layout (List Attribute)
raw es = do
  name ← text_index es
  len ← number w32
  bytes ← run len
  pure (attribute.Raw name bytes ∷ [])

unfoldable pub raws : List Entry → Layout (List Attribute)
raws es = do
  count ← number w16
  many count [] (λ found. raw es)

-- a catch row of a code (JVMS 4.7.3)
unfoldable pub row : Layout (List CatchRow)
row = do
  start ← number w16
  end ← number w16
  handler ← number w16
  caught ← number w16
  pure (record { start = start; end = end; handler = handler; caught = caught } ∷ [])

-- a code has 1 to 65,535 bytes; whatever is wrong in it, the fault is at its first byte, so no offset in here is told
unfoldable pub code : List Entry → Layout Code
code es = do
  stack ← number w16
  locals ← number w16
  len ← checked (number w32) (λ n. not (n == 0) && nat_lt n 65536) (λ at n. fault.Shape at)
  bytes ← run len
  rows ← number w16
  catches ← many rows [] (λ found. row)
  others ← raws es
  pure (roll-Code (record { max_stack = stack; max_locals = locals; code = bytes; catches = catches; attributes = others }))

abbrev pub is_coded_form : Attribute-F Attribute Code → Bool
is_coded_form (Attribute-F.Raw name bytes) = false
is_coded_form (Attribute-F.Coded name c) = true

abbrev pub is_coded : Attribute → Bool
is_coded a = is_coded_form (out-Attribute a)

unfoldable pub coded : List Entry → Bool → ℕ → ℕ → Layout (List Attribute)
coded es seen name len = do
  c ← inside len (choose seen (refused fault.Magic) (code es)) (λ at. fault.Shape at)
  pure (attribute.Coded name c ∷ [])

unfoldable pub plain : ℕ → ℕ → Layout (List Attribute)
plain name len = do
  bytes ← run len
  pure (attribute.Raw name bytes ∷ [])

abbrev pub attribute_body : List Entry → Bool → ℕ → ℕ → Layout (List Attribute)
attribute_body es seen name len = choose (is_code_text (entry_at es name)) (coded es seen name len) (plain name len)

-- an attribute of a method; seen tells whether a code came before
unfoldable pub attribute_of : List Entry → Bool → Layout (List Attribute)
attribute_of es seen = do
  name ← text_index es
  len ← number w32
  attribute_body es seen name len

unfoldable pub attributes : List Entry → Layout (List Attribute)
attributes es = do
  count ← number w16
  many count [] (λ found. attribute_of es (list_any is_coded found))

-- ---- fields and methods (JVMS 4.5, 4.6)

unfoldable pub field : List Entry → Layout (List Member)
field es = do
  flags ← number w16
  name ← text_index es
  descriptor ← text_index es
  parts ← raws es
  pure (record { flags = record { bits = flags }; name = name; descriptor = descriptor; attributes = parts } ∷ [])

unfoldable pub fields : List Entry → Layout (List Member)
fields es = do
  count ← number w16
  many count [] (λ found. field es)

unfoldable pub method : List Entry → Layout (List Member)
method es = do
  flags ← number w16
  name ← text_index es
  descriptor ← text_index es
  parts ← attributes es
  pure (record { flags = record { bits = flags }; name = name; descriptor = descriptor; attributes = parts } ∷ [])

unfoldable pub methods : List Entry → Layout (List Member)
methods es = do
  count ← number w16
  many count [] (λ found. method es)

-- ---- the whole (JVMS 4.1)

abbrev pub magic : Layout (Unit {0})
magic = turned (number w32) (λ n. cond (n == 0xcafe_babe) (Some tt) None) (λ at n. fault.Magic)

-- the minor version, which is 0, and the major version
unfoldable pub version : Layout ℕ
version = do
  minor ← number w16
  checked (number w16) (λ major. minor == 0 && not (nat_lt major 49) && nat_lt major 66) (λ at major. fault.Version)

unfoldable pub class : Layout Class
class = do
  u ← magic
  major ← version
  es ← pool
  flags ← number w16
  this ← class_index es
  parent ← parent_index es
  faces ← interfaces es
  slots ← fields es
  calls ← methods es
  others ← raws es
  pure (record { major = major; pool = es; flags = record { bits = flags }; this = this; parent = parent; interfaces = faces; fields = slots; methods = calls; attributes = others })

-- the bytes spell the class
abbrev pub Spells : List ℕ → Class → Type 0
Spells bytes c = class.Spells c bytes

-- the bytes spell no class, and go wrong first as f says
pub data IsStuck (bytes : List ℕ) (f : ClassFault) : Type 0 where
  in_class : class.Stuck 0 bytes f → IsStuck bytes f
  trailing : (c : Class) (front back : List ℕ) → bytes ≡ front ++ back → class.Spells c front → 0 < length back → f ≡ fault.Trailing (length front) → IsStuck bytes f

-- the one reading of a file, from front to back
abbrev pub ended : Outcome Class → Result Class ClassFault
ended (Err f) = Err f
ended (Ok r) = cond (nat_lt 0 (length r.1.rest)) (Err (fault.Trailing r.1.at)) (Ok r.0)

unfoldable pub file : List ℕ → Result Class ClassFault
file bytes = ended (class.read (place 0 bytes))
