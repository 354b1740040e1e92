-- Where the proxies in a value come from: a fact that holds of each proxy in the parts holds of each in the whole, and back.
use Rattle.std.proofs.Common.{◌≡◌, inl, inr, ℕ, Bool, List, [], ◌∷◌, ◌++◌, map, refl, sym, ap, subst, ◌∙◌}
use Rattle.std.specs.List.{All, flat_map}
use Rattle.std.proofs.lemmas.List.Elements.{All-nil, All-cons, All-head, All-tail, All-append}
use Rattle.std.proofs.lemmas.List.Folds.{flat_map-map}
use Rattle.item_types.specs.declared.value.NodeId.{NodeId}
use Rattle.item_types.specs.declared.value.Proxy.{Proxy}
use Rattle.item_types.specs.declared.value.Value.{Value, out-Value, map-Value, fold-roll-Value, fold_out-Value}
use Rattle.item_types.specs.declared.value.Value.TheOpen as one
use Rattle.item_types.specs.declared.value.Value.TheVariants as value
use Rattle.recorder_proxy.specs.Proxies.{proxies, proxies_step}
use Rattle.recorder_proxy.proofs.Depth_first.{proxies_of_parts}
use Rattle.step_state.specs.Operations.{Layer}
use Rattle.step_eval.proofs.Closed.{Always, IsClosed}

-- R holds of each proxy in it
abbrev pub From : (Proxy → Type 0) → Value → Type 0
From R v = All R (proxies v)

-- the proxies by the form of the value
by_form : (v : Value) (y : Layer) → out-Value v ≡ y → proxies v ≡ proxies_step (map-Value Value (List Proxy) proxies y)
by_form v y e = fold_out-Value (List Proxy) proxies_step v ∙ ap (λ (z : Layer). proxies_step (map-Value Value (List Proxy) proxies z)) e

module _ (R : Proxy → Type 0) where
  pub first : (ps qs : List Proxy) → All R (ps ++ qs) → All R ps
  first [] qs h = All-nil R
  first (p ∷ ps) qs h = All-cons R p ps (All-head R p (ps ++ qs) h) (first ps qs (All-tail R p (ps ++ qs) h))

  pub second : (ps qs : List Proxy) → All R (ps ++ qs) → All R qs
  second [] qs h = h
  second (p ∷ ps) qs h = second ps qs (All-tail R p (ps ++ qs) h)

  all_flat : (vs : List Value) → All (From R) vs → All R (flat_map proxies vs)
  all_flat [] h = All-nil R
  all_flat (v ∷ vs) h = All-append R (proxies v) (flat_map proxies vs) (All-head (From R) v vs h) (all_flat vs (All-tail (From R) v vs h))

  pub flat_all : (vs : List Value) → All R (flat_map proxies vs) → All (From R) vs
  flat_all [] h = All-nil (From R)
  flat_all (v ∷ vs) h = All-cons (From R) v vs (first (proxies v) (flat_map proxies vs) h) (flat_all vs (second (proxies v) (flat_map proxies vs) h))

  plain : (v : Value) → proxies v ≡ [] → From R v
  plain v e = subst (λ ps. All R ps) (sym e) (All-nil R)

  pub from_Returned : (p : Proxy) → R p → From R (value.Returned p)
  from_Returned p h =
      subst (λ ps. All R ps) (sym (ap proxies (sym (value.rolls-Returned p)) ∙ fold-roll-Value (List Proxy) proxies_step (one.Returned p))) (All-cons R p [] h (All-nil R))

  from_List : (id : NodeId) (parts : List Value) → All (From R) parts → From R (value.List id parts)
  from_List id parts h = subst (λ ps. All R ps) (sym (proxies_of_parts (value.List id parts) parts (inl (id, refl)))) (all_flat parts h)

  from_Bean : (id : NodeId) (bean : ℕ) (parts : List Value) → All (From R) parts → From R (value.Bean id bean parts)
  from_Bean id bean parts h = subst (λ ps. All R ps) (sym (proxies_of_parts (value.Bean id bean parts) parts (inr (id, bean, refl)))) (all_flat parts h)

  -- the parts of a value
  parts_from : (parts : List Value) → All R (flat_map (λ ps. ps) (map proxies parts)) → All (From R) parts
  parts_from parts h = flat_all parts (subst (λ ps. All R ps) (flat_map-map (λ ps. ps) proxies parts) h)

  pub from_closed : IsClosed Always (From R)
  from_closed = record {
    null = plain value.Null (ap proxies (sym value.rolls-Null) ∙ fold-roll-Value (List Proxy) proxies_step one.Null);
    truth = λ b. plain (value.Bool b) (ap proxies (sym (value.rolls-Bool b)) ∙ fold-roll-Value (List Proxy) proxies_step (one.Bool b));
    number = λ n. plain (value.Long n) (ap proxies (sym (value.rolls-Long n)) ∙ fold-roll-Value (List Proxy) proxies_step (one.Long n));
    short = λ t h. plain (value.Str t) (ap proxies (sym (value.rolls-Str t)) ∙ fold-roll-Value (List Proxy) proxies_step (one.Str t));
    list = from_List;
    bean = λ id bean parts w h. from_Bean id bean parts h;
    of_list = λ v id parts e h. parts_from parts (subst (λ ps. All R ps) (by_form v (one.List id parts) e) h);
    of_bean = λ v id bean parts e h. parts_from parts (subst (λ ps. All R ps) (by_form v (one.Bean id bean parts) e) h);
  }
