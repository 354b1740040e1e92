-- Needed steps: those to which a list of steps leads from a final item. This project's own.
use Rattle.std.specs.Prelude.{ℕ, List, [], ◌∷◌, Contains, ◌⊎◌}
use Rattle.item_types.specs.declared.step.StepDecl.{StepDecl}
use Rattle.chain_builder.specs.Consumption.{Consumes}
use Rattle.chain_builder.specs.EffectiveProducer.{IsStrongProducer}

-- some step of the list consumes t, optionally or not
abbrev pub IsConsumedBy : List StepDecl → List ℕ → ℕ → Type 0
IsConsumedBy steps list t = (s : ℕ) × Contains list s × Consumes steps s t

-- a list of steps, the last one first, each of which effectively and not weakly produces an item that is final or that an earlier one consumes
abbrev pub LeadsFromFinals : List StepDecl → List ℕ → List ℕ → Type 0
LeadsFromFinals steps finals [] = Unit {0}
LeadsFromFinals steps finals (s ∷ earlier) =
    ((t : ℕ) × IsStrongProducer steps s t × (Contains finals t ⊎ IsConsumedBy steps earlier t)) × LeadsFromFinals steps finals earlier

-- such a list ends with s
pub record IsNeeded (steps : List StepDecl) (finals : List ℕ) (s : ℕ) : Type 0 where
  pub earlier : List ℕ
  pub leads : LeadsFromFinals steps finals (s ∷ earlier)
