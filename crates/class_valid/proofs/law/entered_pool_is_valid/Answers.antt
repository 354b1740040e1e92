use Rattle.class_valid.proofs.Formed.{pool_valid}
use Rattle.class_valid.proofs.law.entered_pool_is_valid.Goals as goal

pub returns : goal.returns
returns c = pool_valid
