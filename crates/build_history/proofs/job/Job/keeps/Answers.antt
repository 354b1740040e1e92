use Rattle.build_history.proofs.Effective.{effective_is}
use Rattle.build_history.proofs.job.Job.keeps.Goals as goal

pub returns : goal.returns
returns c = rw (← c.self.view_is) (effective_is _ _ _ _ c.effective.ensures)
