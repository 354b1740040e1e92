-- Which numbers the declarations of a chain may have. This project's own.
use Rattle.std.specs.Prelude.{ℕ, ◌<◌, ◌^◌, List, length, Contains}
use Rattle.item_types.specs.declared.decl.ItemDecl.{ItemDecl}
use Rattle.item_types.specs.declared.step.Consume.{Consume}
use Rattle.item_types.specs.declared.step.Produce.{Produce}
use Rattle.item_types.specs.declared.step.StepDecl.{StepDecl}

-- numbers of 32 bits count the steps and the items, and each item that is consumed, produced or final is declared
pub record IsNumbered (steps : List StepDecl) (items : List ItemDecl) (finals : List ℕ) : Type 0 where
  pub few_steps : length steps < 2 ^ 32
  pub few_items : length items < 2 ^ 32
  pub consumed : (d : StepDecl) (c : Consume) → Contains steps d → Contains d.consumes c → c.item < length items
  pub produced : (d : StepDecl) (p : Produce) → Contains steps d → Contains d.produces p → p.item < length items
  pub wanted : (t : ℕ) → Contains finals t → t < length items
