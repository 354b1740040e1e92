use Rattle.build_report.proofs.PlanRows.{one_text}
use Rattle.build_report.proofs.laws.a_plan_has_one_text.Goals as goal

pub returns : goal.returns
returns c = λ app steps finals text other. one_text c.ascending_lists_are_equal.ensures steps finals app text other
