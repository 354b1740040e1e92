-- The length of a text in modified UTF-8, as class files keep it (JVMS 4.4.7).
use Rattle.std.specs.Prelude.{ℕ, cond, nat_lt, ◌==◌, List, sum_by}
use Rattle.std.specs.Str.{chars}

-- how many bytes the character c takes
abbrev pub char_len : ℕ → ℕ
char_len c = cond (c == 0) 2 (cond (nat_lt c 0x80) 1 (cond (nat_lt c 0x800) 2 (cond (nat_lt c 0x1_0000) 3 6)))

-- how many bytes the text with these UTF-8 bytes takes
abbrev pub modified_len : List ℕ → ℕ
modified_len bytes = sum_by char_len (chars bytes)
