use Rattle.std.proofs.Common.{take, Contains}
use Rattle.item_types.specs.declared.step.StepDecl.{StepDecl}
use Rattle.chain_builder.specs.DeclaredItems.{AreDeclared}
use Rattle.chain_builder.proofs.numbered.are_declared.Given as goal

abbrev pub invariant-loop-step : goal.invariant-loop-step
invariant-loop-step l = (d : StepDecl) → Contains (take l.step-index l.steps) d → AreDeclared d l.count
