-- A name that is among names in a row is one of them.
use Rattle.std.proofs.Common.{◌≡◌, ◌+◌, ap, map, ℕ, Bool, true, false, cond, List, [], ◌∷◌, Option, Some, refl}
use Rattle.std.specs.List.{position_from}
use Rattle.std.specs.Prelude.{is_some, if◌then◌else◌}
use Rattle.std.specs.Str.{bytes_eq}
use Rattle.name_index.specs.Place.{has}
use Rattle.name_index.proofs.CallerLemmas.{bytes_eq-sym}
use Rattle.syntax_tree.specs.Known.{contains}

one-by : (b c rest : Bool) (found : Option ℕ) (i : ℕ) → b ≡ c → is_some found ≡ rest → is_some (cond b (Some i) found) ≡ (if c then true else rest)
one-by true true rest found i same later = refl
one-by false false rest found i same later = later
one-by true false rest found i same later = cc
one-by false true rest found i same later = cc

from : (word : List ℕ) (i : ℕ) (names : List (List ℕ)) → is_some (position_from (bytes_eq word) i names) ≡ contains names word
from word i [] = refl
from word i (x ∷ names) =
    one-by (bytes_eq word x) (bytes_eq x word) (contains names word) (position_from (bytes_eq word) (i + 1) names) i (bytes_eq-sym _ _ word x refl refl) (from word (i + 1) names)

pub has_contains : (names : List (List ℕ)) (word : List ℕ) → has names word ≡ contains names word
has_contains names word = from word 0 names

-- a text is its own name
pub own_names : (names : List (List ℕ)) → map (λ (t : List ℕ). t) names ≡ names
own_names [] = refl
own_names (x ∷ names) = ap (λ (rest : List (List ℕ)). x ∷ rest) (own_names names)
