-- What an extension declares: items, beans and recorders, each table's keys in their order. This project's own.
use Rattle.std.specs.Prelude.{ℕ, suc, ◌+◌, List, [], ◌∷◌, ◌++◌, length, cond, Option, Some, None, Result, Ok, Err, codes}
use Rattle.std.specs.Str.{bytes_eq}
use Rattle.toml.specs.Data.{Data, Items, no_items, item, Members, get_member}
use Rattle.toml_keys.specs.Documents.{text_at}
use Rattle.item_types.specs.declared.decl.BeanDecl.{BeanDecl}
use Rattle.item_types.specs.declared.decl.ItemDecl.{ItemDecl}
use Rattle.item_types.specs.declared.decl.ItemKind.{ItemKind}
use Rattle.item_types.specs.declared.decl.ItemKind.TheVariants.{Simple, Multi, Ordered, Empty}
use Rattle.ext_draft.specs.Paths.{nth}
use Rattle.ext_draft.specs.Reading.{then, field, name_at, names_at, list_at, list_of, table_entry, body_at, without_others}
use Rattle.ext_draft.specs.declared.draft.DraftMethod.{DraftMethod}
use Rattle.ext_draft.specs.declared.draft.DraftRecorder.{DraftRecorder}
use Rattle.ext_draft.specs.declared.fault.DraftFault.{DraftFault}
use Rattle.ext_draft.specs.declared.fault.DraftFault.TheVariants.{Field}

-- the kind of an item, with the field by which an ordered one is sorted
abbrev pub key_refused : List ℕ → Option Data → ItemKind → Result ItemKind DraftFault
key_refused path None kind = Ok kind
key_refused path (Some value) kind = Err (Field path)

abbrev pub kind_of : List ℕ → Members → List ℕ → Result ItemKind DraftFault
kind_of prefix table word =
    let key = codes "key" in
    cond (bytes_eq word (codes "simple")) (key_refused (prefix ++ key) (get_member key table) Simple)
    (cond (bytes_eq word (codes "multi")) (key_refused (prefix ++ key) (get_member key table) Multi)
    (cond (bytes_eq word (codes "ordered")) (then (name_at prefix table key) (λ by. Ok (Ordered by)))
    (cond (bytes_eq word (codes "empty")) (key_refused (prefix ++ key) (get_member key table) Empty)
    (Err (Field (prefix ++ codes "kind"))))))

abbrev pub item_keys : List (List ℕ)
item_keys = codes "name" ∷ codes "kind" ∷ codes "key" ∷ []

abbrev pub item_in : List ℕ → Members → Result ItemDecl DraftFault
item_in prefix table =
    then (name_at prefix table (codes "name")) (λ own_name.
    then (field (prefix ++ codes "kind") (text_at (codes "kind") table)) (λ word.
    then (kind_of prefix table word) (λ kind.
    without_others item_keys prefix table (record { name = own_name; kind = kind }))))

-- a bean, with at most 16 fields
abbrev pub bean_keys : List (List ℕ)
bean_keys = codes "name" ∷ codes "fields" ∷ []

abbrev pub bean_in : List ℕ → Members → Result BeanDecl DraftFault
bean_in prefix table =
    then (name_at prefix table (codes "name")) (λ own_name.
    then (names_at 16 prefix table (codes "fields")) (λ fields.
    without_others bean_keys prefix table (record { name = own_name; fields = fields })))

-- a method, with at most 8 parameters
abbrev pub method_keys : List (List ℕ)
method_keys = codes "name" ∷ codes "params" ∷ codes "body" ∷ []

abbrev pub method_in : List ℕ → Members → Result DraftMethod DraftFault
method_in prefix table =
    then (name_at prefix table (codes "name")) (λ own_name.
    then (names_at 8 prefix table (codes "params")) (λ params.
    then (body_at (prefix ++ codes "body") (get_member (codes "body") table)) (λ body.
    without_others method_keys prefix table (record { name = own_name; params = params; body = body }))))

-- a recorder with at most 16 fields and 16 statics, after recorders with so many methods
abbrev pub recorder_keys : List (List ℕ)
recorder_keys = codes "name" ∷ codes "fields" ∷ codes "statics" ∷ codes "methods" ∷ []

abbrev pub recorder_in : ℕ → List ℕ → Members → Result DraftRecorder DraftFault
recorder_in before prefix table =
    then (name_at prefix table (codes "name")) (λ own_name.
    then (names_at 16 prefix table (codes "fields")) (λ fields.
    then (names_at 16 prefix table (codes "statics")) (λ statics.
    then (list_of (table_entry method_in) 1024 before prefix table (codes "methods")) (λ methods.
    without_others recorder_keys prefix table (record { name = own_name; fields = fields; statics = statics; methods = methods })))))

-- the recorders of a list from entry n on
abbrev pub recorders_at : ℕ → List ℕ → ℕ → Items → Result (List DraftRecorder) DraftFault
recorders_at before path n no_items = Ok []
recorders_at before path n (item value rest) =
    then (table_entry (recorder_in before) (nth path n) value) (λ r.
    then (recorders_at (before + length r.methods) path (suc n) rest) (λ rs. Ok (r ∷ rs)))

-- the recorders at a key, after so many recorders, which have so many methods
abbrev pub recorders_of : ℕ → ℕ → List ℕ → Members → Result (List DraftRecorder) DraftFault
recorders_of before methods prefix table =
    then (list_at 256 before (prefix ++ codes "recorders") (get_member (codes "recorders") table))
    (recorders_at methods (prefix ++ codes "recorders") 0)

-- how many methods recorders have
abbrev pub method_count : List DraftRecorder → ℕ
method_count [] = 0
method_count (r ∷ rs) = length r.methods + method_count rs
