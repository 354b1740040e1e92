-- What the bytes of a TOML file write, and what stands at a table's keys. TOML is what the crate `toml` reads.
use denote.Ref.{Bor}
use Rattle.std.specs.Prelude.{map, ℕ, ℤ, List, Bool, cond, Option, Some, None, option_and_then, if◌then◌else◌, ◌+◌}
use Rattle.std.specs.List.{list_any}
use Rattle.std.specs.Str.{is_utf8, bytes_eq}
use Rattle.toml.specs.Data.{Items, no_items, item, Members, no_members, member, get_member, as_integer, as_str, as_array}
use Rattle.toml.specs.Parse.{parse_document}

-- the table that a file's bytes write, if they are UTF-8 and `toml` reads them
abbrev pub table_of : List ℕ → Option Members
table_of bytes = if is_utf8 bytes then parse_document bytes else None

-- the text, the whole number and the list at a key, if such a value is there
abbrev pub text_at : List ℕ → Members → Option (List ℕ)
text_at key table = option_and_then as_str (get_member key table)

abbrev pub integer_at : List ℕ → Members → Option ℤ
integer_at key table = option_and_then as_integer (get_member key table)

abbrev pub array_at : List ℕ → Members → Option Items
array_at key table = option_and_then as_array (get_member key table)

-- how many entries a list has
abbrev pub count : Items → ℕ
count no_items = 0
count (item value rest) = count rest + 1

-- what texts that are lent say
unfoldable pub texts_of : List (Bor (List ℕ)) → List (List ℕ)
texts_of words = map (λ word. word.now) words

-- the text is one of these
abbrev pub is_among : List (List ℕ) → List ℕ → Bool
is_among words text = list_any (bytes_eq text) words

-- the first key, by its bytes, that is none of the table's own
abbrev pub other_key : List (List ℕ) → Members → Option (List ℕ)
other_key own no_members = None
other_key own (member key value rest) = cond (is_among own key) (other_key own rest) (Some key)

-- how many keys a table has
abbrev pub key_count : Members → ℕ
key_count no_members = 0
key_count (member key value rest) = key_count rest + 1
