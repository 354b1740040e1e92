-- The fault of a chain, which is the first that holds. This project's own.
use Rattle.std.specs.Prelude.{ℕ, List, Some, None}
use Rattle.item_types.specs.declared.decl.ItemDecl.{ItemDecl}
use Rattle.item_types.specs.declared.step.StepDecl.{StepDecl}
use Rattle.chain_builder.specs.declared.fault.ChainFault.{ChainFault}
use Rattle.chain_builder.specs.declared.fault.ChainFault.TheVariants.{Duplicate, Missing, Cycle, Memory}
use Rattle.chain_builder.specs.ChainFaults.{IsDuplicate, IsMissingFinal, IsMissingConsumed, IsCycle, HasNoDuplicate, HasNoMissing}

-- a duplicate comes first, then what is missing, then a cycle; want of memory may come at any time
abbrev pub IsFault : List StepDecl → List ItemDecl → List ℕ → ChainFault → Type 0
IsFault steps items finals (Duplicate t a b) = IsDuplicate steps items t a b
IsFault steps items finals (Missing t None) = HasNoDuplicate steps items × IsMissingFinal steps items finals t
IsFault steps items finals (Missing t (Some s)) = HasNoDuplicate steps items × IsMissingConsumed steps items finals t s
IsFault steps items finals (Cycle cycle) = HasNoDuplicate steps items × HasNoMissing steps items finals × IsCycle steps finals cycle
IsFault steps items finals Memory = Unit {0}
