-- Where a key or an entry stands in a project file, as a fault names it. This project's own.
use Rattle.std.specs.Prelude.{ℕ, List, length, ◌++◌, Bool, cond, ◌&&◌, ◌||◌, ◌==◌, nat_lt, codes, decimal}
use Rattle.std.specs.List.{list_all}
use Rattle.item_types.specs.Quoted.{quoted}
use Rattle.ext_draft.specs.Names.{is_name_part}

-- entry n of the list at a path
abbrev pub nth : List ℕ → ℕ → List ℕ
nth path n = path ++ codes "[" ++ decimal n ++ codes "]"

-- what the paths of a table's keys begin with
abbrev pub inside : List ℕ → List ℕ
inside path = path ++ codes "."

abbrev pub is_bare_part : ℕ → Bool
is_bare_part c = is_name_part c || c == 0x2D

-- a key with only ASCII letters, digits, `_` and `-`, and one at least
abbrev pub is_bare : List ℕ → Bool
is_bare key = nat_lt 0 (length key) && list_all is_bare_part key

-- any key, as a path shows it
abbrev pub key_text : List ℕ → List ℕ
key_text key = cond (is_bare key) key (quoted key)
