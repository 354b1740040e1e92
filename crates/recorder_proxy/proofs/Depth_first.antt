-- The proxies of a value by its parts, and the first runtime one of several values.
use Rattle.std.proofs.Common.{◌≡◌, ◌⊎◌, inl, inr, ℕ, suc, ◌+◌, ◌<◌, Option, Some, None, List, [], ◌∷◌, ◌++◌, length, drop, get_or, map, refl, sym, ◌∙◌, ap, add-one}
use Rattle.std.proofs.Math.Seq.{drop-cons}
use Rattle.std.proofs.lemmas.List.Folds.{find-append}
use Rattle.std.specs.List.{flat_map, find}
use Rattle.item_types.specs.declared.value.NodeId.{NodeId}
use Rattle.item_types.specs.declared.value.Proxy.{Proxy}
use Rattle.item_types.specs.declared.value.Value.{Value, fold-roll-Value}
use Rattle.item_types.specs.declared.value.Value.TheOpen as one
use Rattle.item_types.specs.declared.value.Value.TheVariants as made
use Rattle.recorder_proxy.specs.Proxies.{proxies, proxies_step, is_runtime, first_runtime}

flat_map-map : {X Y : Type 0} (f : X → List Y) (xs : List X) → flat_map (λ ys. ys) (map f xs) ≡ flat_map f xs
flat_map-map f [] = refl
flat_map-map f (x ∷ xs) = ap (λ ys. f x ++ ys) (flat_map-map f xs)

proxies-List : (id : NodeId) (parts : List Value) → proxies (made.List id parts) ≡ flat_map proxies parts
proxies-List id parts =
    ap proxies (sym (made.rolls-List id parts)) ∙ (fold-roll-Value (List Proxy) proxies_step (one.List id parts) ∙ flat_map-map proxies parts)

proxies-Bean : (id : NodeId) (bean : ℕ) (parts : List Value) → proxies (made.Bean id bean parts) ≡ flat_map proxies parts
proxies-Bean id bean parts =
    ap proxies (sym (made.rolls-Bean id bean parts)) ∙ (fold-roll-Value (List Proxy) proxies_step (one.Bean id bean parts) ∙ flat_map-map proxies parts)

pub proxies_of_parts : (v : Value) (parts : List Value) →
    ((id : NodeId) × (v ≡ made.List id parts)) ⊎ ((id : NodeId) × (bean : ℕ) × (v ≡ made.Bean id bean parts)) → proxies v ≡ flat_map proxies parts
proxies_of_parts v parts (inl (id, e)) = ap proxies e ∙ proxies-List id parts
proxies_of_parts v parts (inr (id, bean, e)) = ap proxies e ∙ proxies-Bean id bean parts

abbrev of_runtime : Value → Option Proxy
of_runtime v = find (λ p. is_runtime p.phase) (proxies v)

pub first_runtime_here : (values : List Value) (i : ℕ) (v : Value) (p : Proxy) → i < length values → of_runtime (get_or values i v) ≡ Some p → first_runtime (drop i values) ≡ Some p
first_runtime_here values i v p h e =
    rw (drop-cons values i v h, find-append (λ q. is_runtime q.phase) (proxies (get_or values i v)) (flat_map proxies (drop (suc i) values)), e) refl

pub first_runtime_later : (values : List Value) (i : ℕ) (v : Value) → i < length values → of_runtime (get_or values i v) ≡ None → first_runtime (drop (i + 1) values) ≡ first_runtime (drop i values)
first_runtime_later values i v h e =
    rw (add-one, drop-cons values i v h, find-append (λ q. is_runtime q.phase) (proxies (get_or values i v)) (flat_map proxies (drop (suc i) values)), e) refl
