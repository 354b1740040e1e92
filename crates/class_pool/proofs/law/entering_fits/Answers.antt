use Rattle.class_pool.proofs.Entering.{enters}
use Rattle.class_pool.proofs.law.entering_fits.Goals as goal

pub returns : goal.returns
returns c = enters
