-- A map from names to their places in a row. This project's own.
use denote.Ref.{Bor}
use Rattle.std.specs.Prelude.{◌≡◌, ℕ, List, map, cond, ◌==◌, Option, Some, None}
use Rattle.std.specs.HashMap.{HashMap, get_by}
use Rattle.std.specs.Option.{option_or}
use Rattle.std.specs.Str.{bytes_eq}
use Rattle.name_index.specs.Place.{place}

abbrev pub texts : List (Bor (List ℕ)) → List (List ℕ)
texts names = map (λ (n : Bor (List ℕ)). n.now) names

-- the place that a map has for a text
abbrev pub place_in : {S : Type 0} → HashMap (Bor (List ℕ)) ℕ S → List ℕ → Option ℕ
place_in places text = get_by (λ name. bytes_eq text name.now) places

-- the map has the first place of each of the names, and no other text
abbrev pub IsIndexed : {S : Type 0} → HashMap (Bor (List ℕ)) ℕ S → List (List ℕ) → Type 0
IsIndexed places names = (text : List ℕ) → place_in places text ≡ place names text

-- a text's place once a name was noted: the place that it had, or else the name's
abbrev pub noted_at : List ℕ → ℕ → Option ℕ → List ℕ → Option ℕ
noted_at name n found text = option_or found (cond (bytes_eq text name) (Some n) None)

abbrev pub unless : ℕ → Option ℕ → Option ℕ
unless n None = None
unless n (Some m) = cond (m == n) None (Some m)

-- a text's place once a name was taken back that had this place
abbrev pub left_behind : List ℕ → ℕ → Option ℕ → List ℕ → Option ℕ
left_behind name n found text = cond (bytes_eq text name) (unless n found) found
