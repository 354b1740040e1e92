use Rattle.std.proofs.Common.{◌≡◌, ◌<◌, ◌+◌, length, true, false, subst, sym, rules}
use Rattle.build_history.specs.Events.{has_failed}
use Rattle.build_state.specs.Built.{Built, mark_at}
use Rattle.build_state.specs.Busy.{is_started}
use Rattle.build_state.proofs.Draining.{IsEnding, ending_init, ending_in, ending_drains, ending_next, ending_skip, not_failed}
use Rattle.build_state.proofs.state.BuildState.end_started.Goals.{then-is_started+in_ok-run_step, else-is_started}
use Rattle.build_state.proofs.state.BuildState.end_started.Goals as goal

pub loop-step-init : goal.loop-step-init
loop-step-init c = ending_init c.args.self.now c.stands.ensures.state c.requires

pub returns-in_err-run_step-clause-drains : goal.returns-in_err-run_step-clause-drains
returns-in_err-run_step-clause-drains c =
    let first : c.loop-step.step < length c.args.self.now.slots = search rules in
    let here : c.loop-step.step < length c.loop-step.self.slots = ending_in c.args.self.now c.loop-step.self c.loop-step.step c.stands.ensures.state c.loop-step.invariant first in
    let go : has_failed c.loop-step.self.history ≡ false = not_failed c.loop-step.self (search rules) in
    let started : is_started (mark_at c.loop-step.self c.loop-step.step) ≡ true = search rules in
    ending_drains c.args.self.now c.loop-step.self c.run_step.new.self c.loop-step.step c.loop-step.invariant go here started c.run_step.ensures.goes

pub loop-step-preserved : goal.loop-step-preserved
loop-step-preserved c =
    let P : Built → Type 0 = λ x. IsEnding c.args.self.now x (c.loop-step.step + 1) in
    let first : c.loop-step.step < length c.args.self.now.slots = search rules in
    let here : c.loop-step.step < length c.loop-step.self.slots = ending_in c.args.self.now c.loop-step.self c.loop-step.step c.stands.ensures.state c.loop-step.invariant first in
    let go : has_failed c.loop-step.self.history ≡ false = not_failed c.loop-step.self (search rules) in
    elim c.if-is_started.branch [
      | then-is_started+in_ok-run_step w ↦
          let started : is_started (mark_at c.loop-step.self c.loop-step.step) ≡ true = search rules in
          subst P (sym w.self-is) (ending_next c.args.self.now c.loop-step.self w.run_step.new.self c.loop-step.step c.loop-step.invariant go here started w.run_step.ensures.goes w.in_ok-run_step.ensures.ok w.stands-then-is_started.ensures.state)
      | else-is_started w ↦
          let idle : is_started (mark_at c.loop-step.self c.loop-step.step) ≡ false = search rules in
          subst P (sym w.self-is) (ending_skip c.args.self.now c.loop-step.self c.loop-step.step c.loop-step.invariant go idle)
    ]
