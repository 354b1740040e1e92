use Rattle.std.proofs.Common.{subst, sym}
use Rattle.step_eval.specs.BoundedOutcome.{HasBoundedValues}
use Rattle.step_state.specs.declared.outcome.Outcome.{Outcome}
use Rattle.step_eval.proofs.Bounded.{outcome_is_bounded}
use Rattle.step_eval.proofs.SteadyStatements.{done_is}
use Rattle.step_eval.proofs.body.eval.Goals as goal

pub returns-in-Ok-clause-meaning : goal.returns-in-Ok-clause-meaning
returns-in-Ok-clause-meaning c =
    done_is (record { names = c.args.names.now; decl = c.args.decl.now; step = c.args.step; lists = c.args.inputs.now.lists })
    c.args.body.now.stmts c.as_slice.result.now c.new-state.result c.execute_body.new.state c.in-Ok.field-0 c.new-state.ensures c.as_slice.ensures c.in-Ok.ensures

pub returns-in-Ok-clause-bounded : goal.returns-in-Ok-clause-bounded
returns-in-Ok-clause-bounded c = λ h.
    subst (λ (o : Outcome). HasBoundedValues o)
    (sym (done_is (record { names = c.args.names.now; decl = c.args.decl.now; step = c.args.step; lists = c.args.inputs.now.lists })
    c.args.body.now.stmts c.as_slice.result.now c.new-state.result c.execute_body.new.state c.in-Ok.field-0 c.new-state.ensures c.as_slice.ensures c.in-Ok.ensures))
    (outcome_is_bounded c.args.names.now c.args.decl.now c.args.step c.args.body.now c.args.inputs.now h)
