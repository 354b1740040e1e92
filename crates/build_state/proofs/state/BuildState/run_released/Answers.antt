use Rattle.std.proofs.Common.{◌≡◌, None, rules}
use Rattle.build_state.proofs.Draining.{running_init, claimed, claimed_going, running_drains, running_less, running_next, running_done}
use Rattle.build_state.proofs.state.BuildState.run_released.Goals as goal

pub loop-step-init : goal.loop-step-init
loop-step-init c = running_init c.args.self.now c.stands.ensures.state c.stands.ensures.ranked c.requires.going c.requires.none

pub run_step-requires-clause-going : goal.run_step-requires-clause-going
run_step-requires-clause-going c =
    claimed_going c.loop-step.self c.claim.new.self c.in-Some.step (claimed c.loop-step.self c.claim.new.self c.in_ok-step.field-0 c.in-Some.step c.in-Some.is c.in_ok-step.ensures.some)

pub returns-in_err-run_step-clause-drains : goal.returns-in_err-run_step-clause-drains
returns-in_err-run_step-clause-drains c =
    running_drains c.args.self.now c.loop-step.self c.claim.new.self c.run_step.new.self c.in-Some.step c.loop-step.invariant
    (claimed c.loop-step.self c.claim.new.self c.in_ok-step.field-0 c.in-Some.step c.in-Some.is c.in_ok-step.ensures.some) c.run_step.ensures.goes

pub loop-step-smaller : goal.loop-step-smaller
loop-step-smaller c =
    running_less c.args.self.now c.loop-step.self c.claim.new.self c.run_step.new.self c.in-Some.step c.loop-step.invariant
    (claimed c.loop-step.self c.claim.new.self c.in_ok-step.field-0 c.in-Some.step c.in-Some.is c.in_ok-step.ensures.some) c.run_step.ensures.goes c.in_ok-run_step.ensures.ok

pub loop-step-preserved : goal.loop-step-preserved
loop-step-preserved c =
    running_next c.args.self.now c.loop-step.self c.claim.new.self c.run_step.new.self c.in-Some.step c.loop-step.invariant
    (claimed c.loop-step.self c.claim.new.self c.in_ok-step.field-0 c.in-Some.step c.in-Some.is c.in_ok-step.ensures.some) c.run_step.ensures.goes c.in_ok-run_step.ensures.ok c.stands-in-Some.ensures.state

pub returns-clause-done : goal.returns-clause-done
returns-clause-done c =
    let none : c.in_ok-step.field-0 ≡ None = search rules in
    running_done c.args.self.now c.loop-step.self c.claim.new.self c.loop-step.invariant (rw none at c.in_ok-step.ensures.none)
