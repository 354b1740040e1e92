-- The proxies in a value, depth first. This project's own.
use Rattle.std.specs.Prelude.{Bool, true, false, List, [], ◌∷◌, Option}
use Rattle.std.specs.List.{flat_map, find}
use Rattle.item_types.specs.declared.step.Phase.{Phase}
use Rattle.item_types.specs.declared.step.Phase.TheVariants.{Static, Runtime}
use Rattle.item_types.specs.declared.value.Proxy.{Proxy}
use Rattle.item_types.specs.declared.value.Value.{Value}
use Rattle.item_types.specs.declared.value.Value.TheOpen.{Value-F}
use Rattle.item_types.specs.declared.value.Value.TheOpen as one
use Rattle.item_types.specs.declared.value.Value.TheFolds.{fold-Value}

-- One value, with the proxies of each part in the part's place.
abbrev pub proxies_step : Value-F (List Proxy) → List Proxy
proxies_step one.Null = []
proxies_step (one.Bool b) = []
proxies_step (one.Long n) = []
proxies_step (one.Str t) = []
proxies_step (one.List id parts) = flat_map (λ ps. ps) parts
proxies_step (one.Bean id bean parts) = flat_map (λ ps. ps) parts
proxies_step (one.Returned p) = p ∷ []

-- the proxies in it, depth first
abbrev pub proxies : Value → List Proxy
proxies = fold-Value (List Proxy) proxies_step

abbrev pub is_runtime : Phase → Bool
is_runtime Static = false
is_runtime Runtime = true

-- the first proxy of a runtime call in these values, depth first
abbrev pub first_runtime : List Value → Option Proxy
first_runtime values = find (λ p. is_runtime p.phase) (flat_map proxies values)
