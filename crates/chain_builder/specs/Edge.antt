-- Edges: which step has to end before which. This project's own.
use Rattle.std.specs.Prelude.{ℕ, List}
use Rattle.item_types.specs.declared.step.StepDecl.{StepDecl}
use Rattle.chain_builder.specs.Consumption.{Consumes}
use Rattle.chain_builder.specs.EffectiveProducer.{IsEffectiveProducer}
use Rattle.chain_builder.specs.Needed.{IsNeeded}

-- both are needed, and p effectively produces, weakly or not, an item that s consumes
pub record HasEdge (steps : List StepDecl) (finals : List ℕ) (p s : ℕ) : Type 0 where
  pub producer_needed : IsNeeded steps finals p
  pub consumer_needed : IsNeeded steps finals s
  pub item : ℕ
  pub produced : IsEffectiveProducer steps p item
  pub consumed : Consumes steps s item
