use Rattle.dep_board.proofs.PlanRows.{RowsTo}
use Rattle.dep_board.proofs.rows.rows_of.Given as goal

abbrev pub invariant-loop-step : goal.invariant-loop-step
invariant-loop-step l = RowsTo l.plan.steps l.plan.finals l.rows l.step
