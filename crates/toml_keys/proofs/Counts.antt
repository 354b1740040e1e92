-- How many entries a list of values has, and how many keys a table.
use Rattle.std.proofs.Common.{◌≡◌, ◌∙◌, ap, refl, suc, add-one, List, [], ◌∷◌, length}
use Rattle.std.specs.Prelude.{String}
use Rattle.std.specs.declared.alloc.Global.{Global}
use Rattle.toml.specs.View.{items_view, members_view}
use Rattle.toml.specs.declared.value.Value.{Value}
use Rattle.toml_keys.specs.Documents.{count, key_count}

pub count_view : (values : List Value) → count (items_view values) ≡ length values
count_view [] = refl
count_view (v ∷ vs) = add-one (count (items_view vs)) ∙ ap suc (count_view vs)

pub key_count_view : (entries : List (String Global × Value)) → key_count (members_view entries) ≡ length entries
key_count_view [] = refl
key_count_view (e ∷ es) = add-one (key_count (members_view es)) ∙ ap suc (key_count_view es)
