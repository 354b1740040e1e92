use Rattle.class_pool.proofs.Once.{entered_once}
use Rattle.class_pool.proofs.law.entered_once.Goals as goal

pub returns : goal.returns
returns c = entered_once
