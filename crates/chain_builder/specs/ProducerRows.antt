-- The words of the tables of producers, made of the declarations. This project's own.
use Rattle.std.specs.Prelude.{◌≡◌, ℕ, ◌<◌, Bool, true, false, List, Contains, ◌⊎◌, slice_index_or, if◌then◌else◌}
use Rattle.item_types.specs.declared.step.Consume.{Consume}
use Rattle.item_types.specs.declared.step.Produce.{Produce}
use Rattle.item_types.specs.declared.step.StepDecl.{StepDecl}
use Rattle.chain_builder.specs.Consumption.{consumptions}
use Rattle.chain_builder.specs.EffectiveProducer.{productions, AllOverridable}

-- each item that is produced is below the limit
abbrev pub AreProducedBelow : List StepDecl → ℕ → Type 0
AreProducedBelow steps limit = (s : ℕ) (p : Produce) → Contains (productions steps s) p → p.item < limit

abbrev pub AreConsumedBelow : List StepDecl → ℕ → Type 0
AreConsumedBelow steps limit = (s : ℕ) (c : Consume) → Contains (consumptions steps s) c → c.item < limit

-- one of the productions is of t and without `overridable`
abbrev pub HasPlainIn : List Produce → ℕ → Type 0
HasPlainIn ps t = (p : Produce) × Contains ps p × (p.item ≡ t) × (p.overridable ≡ false)

-- one of the active steps produces t without `overridable`
abbrev pub HasPlain : List StepDecl → ℕ → Type 0
HasPlain steps t = (s : ℕ) × HasPlainIn (productions steps s) t

-- the production counts, where `plain` says which items have one without `overridable`
abbrev pub counts_as : List Bool → Bool → Produce → Bool
counts_as plain strong p =
    if (if p.overridable then slice_index_or plain p.item false else false) then false
    else (if strong then (if p.weak then false else true) else true)

-- the items of the elements that pass
pub record AreItemsOf {X : Type 0} (item : X → ℕ) (test : X → Bool) (xs : List X) (items : List ℕ) : Type 0 where
  pub from : (t : ℕ) → Contains items t → (x : X) × Contains xs x × (item x ≡ t) × (test x ≡ true)
  pub kept : (x : X) → Contains xs x → test x ≡ true → Contains items (item x)

-- the production counts: it isn't overridable, or all of its item are
abbrev pub IsEffective : List StepDecl → Produce → Type 0
IsEffective steps p = (p.overridable ≡ false) ⊎ AllOverridable steps p.item

-- effectively, and not weakly where `strong` says so
abbrev pub ProducesAs : Bool → List StepDecl → ℕ → ℕ → Type 0
ProducesAs strong steps s t = (p : Produce) × Contains (productions steps s) p × (p.item ≡ t) × IsEffective steps p × (strong ≡ true → p.weak ≡ false)
