use Rattle.std.proofs.Common.{string_bytes}
use Rattle.build_report.proofs.PlanRows.{AreLinesBelow}
use Rattle.build_report.proofs.plan_text.push_rows.Given as goal

-- the lines of the needed steps before this one are appended
abbrev pub invariant-loop-step : goal.invariant-loop-step
invariant-loop-step l = AreLinesBelow l.plan.steps l.plan.finals l.step l.planned (string_bytes l.initial.out) (string_bytes l.out)
