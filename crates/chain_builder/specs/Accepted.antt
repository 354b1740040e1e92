-- An accepted chain: one with no fault. This project's own.
use Rattle.std.specs.Prelude.{ℕ, List}
use Rattle.item_types.specs.declared.decl.ItemDecl.{ItemDecl}
use Rattle.item_types.specs.declared.step.StepDecl.{StepDecl}
use Rattle.chain_builder.specs.ChainFaults.{HasNoDuplicate, HasNoMissing, HasNoCycle}

pub record IsAccepted (steps : List StepDecl) (items : List ItemDecl) (finals : List ℕ) : Type 0 where
  pub no_duplicate : HasNoDuplicate steps items
  pub no_missing : HasNoMissing steps items finals
  pub no_cycle : HasNoCycle steps finals
