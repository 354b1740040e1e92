use Rattle.std.proofs.Common.{arith, refl}
use Rattle.item_types.specs.declared.step.StepDecl.{StepDecl}
use Rattle.chain_builder.specs.DeclaredItems.{AreDeclared}
use Rattle.chain_builder.proofs.ListLemmas.{all_more, all_all}
use Rattle.chain_builder.proofs.numbered.are_declared.Goals as goal

pub loop-step-preserved : goal.loop-step-preserved
loop-step-preserved c = all_more (λ (d : StepDecl). AreDeclared d c.args.count) c.args.steps.now c.loop-step.step-index c.step-item.result (omega arith) c.step-item.is (c.is_declared.ensures.0 c.if-not-is_declared.false) c.loop-step.invariant

pub returns : goal.returns
returns c = (λ e. all_all (λ (d : StepDecl). AreDeclared d c.args.count) c.args.steps.now c.loop-step.step-index (omega arith) c.loop-step.invariant, λ all. refl)
