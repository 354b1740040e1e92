-- The words of the test of a chain's numbers. This project's own.
use Rattle.std.specs.Prelude.{ℕ, ◌<◌, Contains}
use Rattle.item_types.specs.declared.step.Consume.{Consume}
use Rattle.item_types.specs.declared.step.Produce.{Produce}
use Rattle.item_types.specs.declared.step.StepDecl.{StepDecl}

-- each item that the step consumes or produces is below the count
pub record AreDeclared (d : StepDecl) (count : ℕ) : Type 0 where
  pub consumed : (c : Consume) → Contains d.consumes c → c.item < count
  pub produced : (p : Produce) → Contains d.produces p → p.item < count
