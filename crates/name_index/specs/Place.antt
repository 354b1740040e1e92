-- Names in a row, and where a text stands among them. This project's own.
use Rattle.std.specs.Prelude.{ℕ, List, Bool, Option, is_some}
use Rattle.std.specs.List.{position_from}
use Rattle.std.specs.Str.{bytes_eq}

-- where the first of these names stands that equals the text, counted from 0
abbrev pub place : List (List ℕ) → List ℕ → Option ℕ
place names text = position_from (bytes_eq text) 0 names

abbrev pub has : List (List ℕ) → List ℕ → Bool
has names text = is_some (place names text)
