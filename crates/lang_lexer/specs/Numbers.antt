-- Whole numbers, digit by digit. This project's own.
use Rattle.std.specs.Prelude.{ℕ, ◌+◌, ◌-◌, ◌*◌, ◌&&◌, if◌then◌else◌, nat_lt, List, [], ◌∷◌}
use Rattle.lang_lexer.specs.Words.{is_digit}

abbrev pub digit_value : ℕ → ℕ
digit_value c = if is_digit c then c - 48 else 0

-- further digits, as long as the number stays below the limit; and what follows them
abbrev pub digits : ℕ → ℕ → List ℕ → ℕ × List ℕ
digits n limit [] = (n, [])
digits n limit (c ∷ cs) = if is_digit c && nat_lt (10 * n + digit_value c) limit then digits (10 * n + digit_value c) limit cs else (n, c ∷ cs)
