use Rattle.project_job.proofs.Bodies.{bodied}
use Rattle.project_job.proofs.laws.a_body_for_each_step.Goals as goal

pub returns : goal.returns
returns c = bodied
