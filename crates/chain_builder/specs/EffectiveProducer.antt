-- Effective producers: the steps whose production of an item counts. After the Quarkus builder's
-- flags of a production; the exact rule is this project's own.
use Rattle.std.specs.Prelude.{◌≡◌, ℕ, true, false, List, [], Contains, ◌⊎◌, if◌then◌else◌}
use Rattle.item_types.specs.declared.step.Produce.{Produce}
use Rattle.item_types.specs.declared.step.StepDecl.{StepDecl}
use Rattle.chain_builder.specs.Lists.{list_at}

-- what an active step produces; a step that isn't active produces nothing
abbrev pub produced : StepDecl → List Produce
produced d = if d.active then d.produces else []

-- what step s produces where it is active; nothing for a number that is no step's
abbrev pub productions : List StepDecl → ℕ → List Produce
productions steps s = list_at produced steps s

-- every active step that produces t does so with `overridable`
abbrev pub AllOverridable : List StepDecl → ℕ → Type 0
AllOverridable steps t = (s : ℕ) (p : Produce) → Contains (productions steps s) p → p.item ≡ t → p.overridable ≡ true

-- the active step s produces t without `overridable`, or it produces t and all active producers of t are overridable
pub record IsEffectiveProducer (steps : List StepDecl) (s t : ℕ) : Type 0 where
  pub production : Produce
  pub declared : Contains (productions steps s) production
  pub item : production.item ≡ t
  pub counts : (production.overridable ≡ false) ⊎ AllOverridable steps t

-- effectively, and by a production that isn't weak
pub record IsStrongProducer (steps : List StepDecl) (s t : ℕ) : Type 0 where
  pub production : Produce
  pub declared : Contains (productions steps s) production
  pub item : production.item ≡ t
  pub counts : (production.overridable ≡ false) ⊎ AllOverridable steps t
  pub strong : production.weak ≡ false
