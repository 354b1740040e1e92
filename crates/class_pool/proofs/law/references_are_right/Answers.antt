use Rattle.class_pool.proofs.Potential.{not_bad, bad_right}
use Rattle.class_pool.proofs.law.references_are_right.Goals as goal

pub returns : goal.returns
returns c = λ es. (not_bad es, bad_right es)
