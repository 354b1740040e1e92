-- The entries of `consumes` and `produces`: an item, and after a space the words that follow it. This project's own.
use Rattle.std.specs.Prelude.{ℕ, List, length, Bool, true, false, cond, ◌==◌, nat_lt, Option, Some, None, codes}
use Rattle.std.specs.List.{before_first, after_first, position_or_len}
use Rattle.std.specs.Str.{bytes_eq}
use Rattle.ext_draft.specs.declared.draft.Flags.{Flags}

abbrev pub is_space : ℕ → Bool
is_space c = c == 0x20

-- the text before the first space, or the whole text
abbrev pub item_part : List ℕ → List ℕ
item_part text = before_first is_space text

-- the text after the first space, if there is one
abbrev pub words_part : List ℕ → Option (List ℕ)
words_part text = cond (nat_lt (position_or_len is_space text) (length text)) (Some (after_first is_space text)) None

-- `T` or `T optional`
abbrev pub optional_in : Option (List ℕ) → Option Bool
optional_in None = Some false
optional_in (Some words) = cond (bytes_eq words (codes "optional")) (Some true) None

-- `T`, `T weak`, `T overridable` or `T weak overridable`
abbrev pub flags_in : Option (List ℕ) → Option Flags
flags_in None = Some (record { weak = false; overridable = false })
flags_in (Some words) =
    cond (bytes_eq words (codes "weak")) (Some (record { weak = true; overridable = false }))
    (cond (bytes_eq words (codes "overridable")) (Some (record { weak = false; overridable = true }))
    (cond (bytes_eq words (codes "weak overridable")) (Some (record { weak = true; overridable = true })) None))
