-- How a key's value is read: what it gives, or the first fault. This project's own.
use Rattle.std.specs.Prelude.{ℕ, suc, ◌+◌, List, [], ◌∷◌, ◌++◌, length, cond, nat_lt, Option, Some, None, Result, Ok, Err}
use Rattle.toml.specs.Data.{Data, Items, no_items, item, Members, get_member, as_array, as_table, as_str}
use Rattle.toml_keys.specs.Documents.{count, text_at, other_key}
use Rattle.ext_draft.specs.Names.{is_name}
use Rattle.ext_draft.specs.Paths.{nth, inside, key_text}
use Rattle.ext_draft.specs.declared.fault.DraftFault.{DraftFault}
use Rattle.ext_draft.specs.declared.fault.DraftFault.TheVariants.{Limit, Field, Name}

-- what follows, where nothing was wrong before
abbrev pub then : {A B : Type 0} → Result A DraftFault → (A → Result B DraftFault) → Result B DraftFault
then (Ok x) next = next x
then (Err fault) next = Err fault

-- a value of the form that its place asks for
abbrev pub field : {A : Type 0} → List ℕ → Option A → Result A DraftFault
field path (Some x) = Ok x
field path None = Err (Field path)

-- at most `limit` entries
abbrev pub within : {A : Type 0} → ℕ → List ℕ → ℕ → A → Result A DraftFault
within limit path found x = cond (nat_lt limit found) (Err (Limit path found)) (Ok x)

-- a text that is a name
abbrev pub name : List ℕ → List ℕ → Result (List ℕ) DraftFault
name path text = cond (is_name text) (Ok text) (Err (Name path))

-- the name at a key that has to be there
abbrev pub name_at : List ℕ → Members → List ℕ → Result (List ℕ) DraftFault
name_at prefix table key = then (field (prefix ++ key) (text_at key table)) (name (prefix ++ key))

-- the list at a key; none is an empty one. The entries of such lists that were read before count with it
abbrev pub list_at : ℕ → ℕ → List ℕ → Option Data → Result Items DraftFault
list_at limit before path None = Ok no_items
list_at limit before path (Some value) = then (field path (as_array value)) (λ entries. within limit path (before + count entries) entries)

-- the entries of a list from entry n on, each read at its own path
abbrev pub entries_at : {A : Type 0} → (List ℕ → Data → Result A DraftFault) → List ℕ → ℕ → Items → Result (List A) DraftFault
entries_at read path n no_items = Ok []
entries_at read path n (item value rest) = then (read (nth path n) value) (λ x. then (entries_at read path (suc n) rest) (λ xs. Ok (x ∷ xs)))

-- the list at a key, and then its entries
abbrev pub list_of : {A : Type 0} → (List ℕ → Data → Result A DraftFault) → ℕ → ℕ → List ℕ → Members → List ℕ → Result (List A) DraftFault
list_of read limit before prefix table key = then (list_at limit before (prefix ++ key) (get_member key table)) (entries_at read (prefix ++ key) 0)

-- what the table is read as, if it has no key but its own
abbrev pub without_others : {A : Type 0} → List (List ℕ) → List ℕ → Members → A → Result A DraftFault
without_others own prefix table x = elim (other_key own table) [ Some key ↦ Err (Field (prefix ++ key_text key)) | None ↦ Ok x ]

-- an entry that is a table
abbrev pub table_entry : {A : Type 0} → (List ℕ → Members → Result A DraftFault) → List ℕ → Data → Result A DraftFault
table_entry read path value = then (field path (as_table value)) (read (inside path))

-- an entry that is a name, and the names at a key
abbrev pub name_entry : List ℕ → Data → Result (List ℕ) DraftFault
name_entry path value = then (field path (as_str value)) (name path)

abbrev pub names_at : ℕ → List ℕ → Members → List ℕ → Result (List (List ℕ)) DraftFault
names_at limit prefix table key = list_of name_entry limit 0 prefix table key

-- the text at the path of a `body`; none is the empty one
abbrev pub body_at : List ℕ → Option Data → Result (List ℕ) DraftFault
body_at path None = Ok []
body_at path (Some value) = then (field path (as_str value)) (λ text. within 65535 path (length text) text)
