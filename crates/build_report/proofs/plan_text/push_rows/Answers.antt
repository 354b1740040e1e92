use Rattle.build_report.proofs.PlanRows.{lines_skip, lines_more}
use Rattle.build_report.proofs.plan_text.push_rows.Goals as goal
use Rattle.build_report.proofs.plan_text.push_rows.Goals.{then-needed+in_ok-push_row, else-needed}

pub loop-step-preserved : goal.loop-step-preserved
loop-step-preserved c =
    let plan = c.args.plan.now in
    elim c.if-needed.branch [
      | then-needed+in_ok-push_row w ↦ rw (w.out-is, w.planned-is) (
          lines_more plan.steps plan.finals c.loop-step.step c.loop-step.planned _ _ _ c.loop-step.invariant (c.needed.ensures.0 w.if-needed.true) w.in_ok-push_row.ensures
          )
      | else-needed w ↦ rw (w.out-is, w.planned-is) (
          lines_skip plan.steps plan.finals c.loop-step.step c.loop-step.planned _ _ c.loop-step.invariant (λ is. cc (w.if-needed.ensures.1 is))
          )
    ]
