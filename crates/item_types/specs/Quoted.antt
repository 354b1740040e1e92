-- Quoted texts: between quotes, with escapes where a character doesn't stand for itself. This project's own.
use Rattle.std.specs.Prelude.{ℕ, false, cond, nat_lt, ◌==◌, ◌||◌, List, ◌++◌, codes}
use Rattle.std.specs.List.{flat_map}
use Rattle.std.specs.Char.{encode_utf8}
use Rattle.std.specs.Fmt.{digits}
use Rattle.std.specs.Str.{chars}

-- how a quoted text shows the character c
abbrev pub escaped : ℕ → List ℕ
escaped c =
    cond (c == 0x22) (codes "\\\"")
    (cond (c == 0x5C) (codes "\\\\")
    (cond (c == 0x0A) (codes "\\n")
    (cond (c == 0x09) (codes "\\t")
    (cond (nat_lt c 0x20 || c == 0x7F) (codes "\\u{" ++ digits 16 false c ++ codes "}") (encode_utf8 c)))))

-- the text between quotes, with escapes
abbrev pub quoted : List ℕ → List ℕ
quoted bytes = codes "\"" ++ flat_map escaped (chars bytes) ++ codes "\""
