-- A plan as its callers see it: what the chain was built of. This project's own.
use Rattle.std.specs.Prelude.{ℕ, List}
use Rattle.item_types.specs.declared.decl.ItemDecl.{ItemDecl}
use Rattle.item_types.specs.declared.step.StepDecl.{StepDecl}

pub record PlanView : Type 0 where
  pub steps : List StepDecl
  pub items : List ItemDecl
  pub finals : List ℕ
