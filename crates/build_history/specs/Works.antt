-- A work: the evaluation of a step's body on what the step took. This project's own.
use Rattle.std.specs.Prelude.{◌≡◌, ℕ, ◌<◌, length}
use Rattle.step_state.specs.declared.outcome.Inputs.{Inputs}
use Rattle.step_state.specs.declared.outcome.Outcome.{Outcome}
use Rattle.build_history.specs.Jobs.{JobView, meaning_at}

pub record Worked : Type 0 where
  pub job : JobView
  pub step : ℕ
  pub inputs : Inputs
  pub outcome : Outcome

-- the outcome is what the body of that step of the job means for these inputs
pub record IsMeant (w : Worked) : Type 0 where
  pub step_in : w.step < length w.job.plan.steps
  pub meant : w.outcome ≡ meaning_at w.job w.step w.inputs.lists
