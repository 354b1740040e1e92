use Rattle.project_fit.proofs.Numbers.{fit-numbered}
use Rattle.project_fit.proofs.laws.fitting_is_numbered.Goals as goal

pub returns : goal.returns
returns c = λ names steps finals is. fit-numbered names steps finals is
