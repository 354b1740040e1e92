-- Quoted texts, character by character. This project's own.
use Rattle.std.specs.Prelude.{ℕ, ◌+◌, ◌-◌, ◌*◌, Bool, ◌&&◌, ◌||◌, if◌then◌else◌, ◌==◌, nat_lt, nat_le, List, [], ◌∷◌, ◌++◌, Option, Some, None}
use Rattle.std.specs.Char.{encode_utf8}
use Rattle.lang_lexer.specs.declared.quoted.Quoting.{Quoting}
use Rattle.lang_lexer.specs.declared.quoted.Quoting.TheVariants.{Plain, Escape, Brace, Hex}
use Rattle.lang_lexer.specs.declared.quoted.Act.{Act}
use Rattle.lang_lexer.specs.declared.quoted.Act.TheVariants.{Add, Go, End, Bad}

abbrev pub hex_value : ℕ → Option ℕ
hex_value c =
    if nat_le 48 c && nat_le c 57 then Some (c - 48) else (
    if nat_le 97 c && nat_le c 102 then Some (c - 87) else (
    if nat_le 65 c && nat_le c 70 then Some (c - 55) else None))

-- a scalar value: no surrogate, and at most 10FFFF
abbrev pub is_scalar : ℕ → Bool
is_scalar v = nat_lt v 0xD800 || nat_le 0xE000 v && nat_le v 0x10FFFF

abbrev pub behind_backslash : ℕ → Act
behind_backslash c = if c == 34 || c == 92 then Add c else (if c == 110 then Add 10 else (if c == 116 then Add 9 else (if c == 117 then Go Brace else Bad)))

abbrev pub behind_digits : ℕ → ℕ → ℕ → Act
behind_digits digits value c = if c == 125 then (if digits == 0 then Bad else (if is_scalar value then Add value else Bad)) else Bad

abbrev pub in_digits_by : ℕ → ℕ → ℕ → Option ℕ → Act
in_digits_by digits value c None = behind_digits digits value c
in_digits_by digits value c (Some d) = if nat_lt digits 6 && nat_lt value 0x100000 then Go (Hex (digits + 1) (16 * value + d)) else Bad

abbrev pub in_digits : ℕ → ℕ → ℕ → Act
in_digits digits value c = in_digits_by digits value c (hex_value c)

-- what a character does
abbrev pub act : Quoting → ℕ → Act
act Plain c = if c == 34 then End else (if c == 92 then Go Escape else (if nat_lt c 32 then Bad else Add c))
act Escape c = behind_backslash c
act Brace c = if c == 123 then Go (Hex 0 0) else Bad
act (Hex digits value) c = in_digits digits value c

abbrev pub by_act : {A : Type 0} → Act → (ℕ → Option A) → (Quoting → Option A) → Option A → Option A
by_act (Add c) add go end = add c
by_act (Go q) add go end = go q
by_act End add go end = end
by_act Bad add go end = None

-- the text behind an opening quote, and what follows it
abbrev pub quoted : Quoting → List ℕ → List ℕ → Option (List ℕ × List ℕ)
quoted q found [] = None
quoted q found (c ∷ cs) = by_act (act q c) (λ d. quoted Plain (found ++ encode_utf8 d) cs) (λ r. quoted r found cs) (Some (found, cs))
