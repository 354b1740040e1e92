use Rattle.std.proofs.Common.{subst, List, ℕ, arith}
use Rattle.std.proofs.lemmas.List.{take_all}
use Rattle.build_state.specs.Parts.{AreReleased}
use Rattle.build_state.proofs.Opening.{release_none, release_turn}
use Rattle.build_state.proofs.parts.release.Goals as goal

pub loop-step-init : goal.loop-step-init
loop-step-init c = release_none c.args.slots.now.items

pub loop-step-preserved : goal.loop-step-preserved
loop-step-preserved c = release_turn c.args.steps.now c.loop-step.step-index c.args.slots.now.items c.loop-step.slots.items c.release_one.new.slots.items c.loop-step-test.true c.loop-step.invariant c.release_one.ensures

pub returns : goal.returns
returns c = subst (λ (l : List ℕ). AreReleased l c.args.slots.now.items c.loop-step.slots.items) (take_all c.loop-step.step-index c.args.steps.now (omega (arith, c.loop-step-test.false))) c.loop-step.invariant
