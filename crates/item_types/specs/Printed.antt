-- The text of a value, as a history shows it. This project's own.
use Rattle.std.specs.Prelude.{ℕ, ◌==◌, cond, Bool, true, false, List, [], ◌∷◌, ◌++◌, slice_get, codes}
use Rattle.std.specs.Fmt.{decimal, signed_decimal}
use Rattle.item_types.specs.Quoted.{quoted}
use Rattle.item_types.specs.Named.{fields_of, bean_name}
use Rattle.item_types.specs.declared.decl.Names.{Names}
use Rattle.item_types.specs.declared.value.NodeId.{NodeId}
use Rattle.item_types.specs.declared.step.Phase.{Phase}
use Rattle.item_types.specs.declared.step.Phase.TheVariants.{Static, Runtime}
use Rattle.item_types.specs.declared.value.Proxy.{Proxy}
use Rattle.item_types.specs.declared.value.Value.{Value}
use Rattle.item_types.specs.declared.value.Value.TheOpen.{Value-F}
use Rattle.item_types.specs.declared.value.Value.TheOpen as one
use Rattle.item_types.specs.declared.value.Value.TheFolds.{fold-Value}

-- the texts, with `before` before the first and `between` before each other one
abbrev pub joined : List ℕ → List ℕ → List (List ℕ) → List ℕ
joined before between [] = []
joined before between (t ∷ ts) = before ++ t ++ joined between between ts

-- each text after its field's name
abbrev pub named : List (List ℕ) → List (List ℕ) → List (List ℕ)
named [] texts = []
named (field ∷ fields) [] = []
named (field ∷ fields) (t ∷ ts) = (field ++ codes ": " ++ t) ∷ named fields ts

-- what stands before the text at that place
abbrev pub separator : ℕ → List ℕ
separator place = cond (place == 0) [] (codes ", ")

abbrev pub bool_text : Bool → List ℕ
bool_text true = codes "true"
bool_text false = codes "false"

abbrev pub phase_text : Phase → List ℕ
phase_text Static = codes "static"
phase_text Runtime = codes "runtime"

abbrev pub node_text : NodeId → List ℕ
node_text id = codes "#" ++ decimal id.step ++ codes "." ++ decimal id.k

abbrev pub proxy_text : Proxy → List ℕ
proxy_text p = codes "@" ++ decimal p.step ++ codes "." ++ decimal p.call ++ codes "." ++ phase_text p.phase

-- One value, with the text of each part in its place.
abbrev pub text_step : Names → Value-F (List ℕ) → List ℕ
text_step names one.Null = codes "null"
text_step names (one.Bool b) = bool_text b
text_step names (one.Long n) = signed_decimal n
text_step names (one.Str t) = quoted t
text_step names (one.List id parts) = codes "[" ++ node_text id ++ codes ":" ++ joined (codes " ") (codes ", ") parts ++ codes "]"
text_step names (one.Bean id bean parts) =
    bean_name (slice_get names.beans bean) ++ node_text id ++ codes "{" ++ joined [] (codes ", ") (named (fields_of (slice_get names.beans bean)) parts) ++ codes "}"
text_step names (one.Returned p) = proxy_text p

abbrev pub value_text : Names → Value → List ℕ
value_text names = fold-Value (List ℕ) (text_step names)
