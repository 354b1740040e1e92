use Rattle.value_literals.proofs.Room.{filled}
use Rattle.value_literals.proofs.law.filled_law.Goals as goal

pub returns : goal.returns
returns c = filled
