use Rattle.step_eval.proofs.Forms.{new_after}
use Rattle.step_eval.proofs.expression.+expr.Goals as goal

pub value_of-returns-in-New : goal.value_of-returns-in-New
value_of-returns-in-New t c = new_after _ _ _ _ _ _ _ _ _ c.in-New.is c.as_slice.ensures c.value_of_new.ensures
