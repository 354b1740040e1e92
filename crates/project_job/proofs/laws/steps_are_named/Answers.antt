use Rattle.project_job.proofs.Named.{named}
use Rattle.project_job.proofs.laws.steps_are_named.Goals as goal

pub returns : goal.returns
returns c = λ bytes. named bytes (c.drafts_keep_limits.ensures bytes)
