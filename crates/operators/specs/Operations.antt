-- The operations that steps and methods share. This project's own.
use Rattle.std.specs.Prelude.{ℕ, ℤ, pos, Bool, true, false, not, nat_lt, if◌then◌else◌, List, ◌++◌, length, Option, Some, None}
use Rattle.std.specs.Int.{int_wrapping_add, w64}
use Rattle.std.specs.Int.Signed.{lt_z}
use Rattle.std.specs.Ordering.{int_eq}
use Rattle.std.specs.Str.{bytes_eq, chars}
use Rattle.item_types.specs.Modified.{modified_len}
use Rattle.operators.specs.declared.operand.Operand.{Operand as Seen}
use Rattle.operators.specs.declared.operand.Operand.TheVariants.{Null, Bool as Truth, Long, Str, List as Row}
use Rattle.operators.specs.declared.operation.Added.{Added}
use Rattle.operators.specs.declared.operation.Added.TheVariants as sum

abbrev pub Operand : Type 0
Operand = Seen (List ℕ)

-- a literal or a join has at most 65,535 bytes of modified UTF-8
abbrev pub is_too_long : List ℕ → Bool
is_too_long t = nat_lt 65535 (modified_len t)

abbrev pub joined : List ℕ → List ℕ → Added
joined a b = if is_too_long (a ++ b) then sum.TooLong else sum.Str (a ++ b)

-- the sum of two numbers, wrapped to 64 bits, or the join of two texts
abbrev pub plus : Operand → Operand → Added
plus (Long a) (Long b) = sum.Long (int_wrapping_add w64 a b)
plus (Str a) (Str b) = joined a b
plus _ _ = sum.WrongKind

abbrev pub less : Operand → Operand → Option Bool
less (Long a) (Long b) = Some (lt_z a b)
less _ _ = None

-- both null, equal truth values, numbers or texts
abbrev pub same_plain : Operand → Operand → Bool
same_plain Null Null = true
same_plain (Truth a) (Truth b) = if a then b else not b
same_plain (Long a) (Long b) = int_eq a b
same_plain (Str a) (Str b) = bytes_eq a b
same_plain _ _ = false

abbrev pub truth : Operand → Option Bool
truth (Truth b) = Some b
truth _ = None

-- how many characters a text has, or how many elements a list
abbrev pub len : Operand → Option ℤ
len (Str t) = Some (pos (length (chars t)))
len (Row n) = Some n
len _ = None
