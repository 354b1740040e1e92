-- Names and numbers as a dump shows them. This project's own.
use Rattle.std.specs.Prelude.{ℕ, ◌/◌, ◌%◌, Bool, false, ◌||◌, cond, nat_lt, ◌==◌, List, [], ◌++◌, Option, Some}
use Rattle.std.specs.Fmt.{digits}
use Rattle.std.specs.List.{flat_map, list_any}
use Rattle.std.specs.Str.{chars}
use Rattle.item_types.specs.Quoted.{quoted}
use Rattle.class_pool.specs.Entries.{entry_at}
use Rattle.class_pool.specs.declared.entry.Entry.{Entry}
use Rattle.class_pool.specs.declared.entry.Entry.TheVariants as entry

-- two hexadecimal digits in lower case for each byte
abbrev pub byte_text : ℕ → List ℕ
byte_text b = digits 16 false (b / 16) ++ digits 16 false (b % 16)

abbrev pub hex : List ℕ → List ℕ
hex bytes = flat_map byte_text bytes

-- below U+0020, and U+007F
abbrev pub is_control : ℕ → Bool
is_control c = nat_lt c 0x20 || c == 0x7f

-- a name prints as it is, but where it has a control character as its quoted text, so that no name makes a line
abbrev pub name_text : List ℕ → List ℕ
name_text t = cond (list_any is_control (chars t)) (quoted t) t

-- the text at an index, and the name of the class at one; no text where there is none
abbrev pub text_of : Option Entry → List ℕ
text_of (Some (entry.Utf8 t)) = t
text_of _ = []

abbrev pub class_name_of : List Entry → Option Entry → List ℕ
class_name_of pool (Some (entry.Class n)) = text_of (entry_at pool n)
class_name_of pool _ = []

abbrev pub text_at : List Entry → ℕ → List ℕ
text_at pool n = name_text (text_of (entry_at pool n))

abbrev pub class_at : List Entry → ℕ → List ℕ
class_at pool n = name_text (class_name_of pool (entry_at pool n))
