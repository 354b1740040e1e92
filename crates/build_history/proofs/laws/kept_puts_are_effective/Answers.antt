use Rattle.build_history.proofs.Effective.{effective_both}
use Rattle.build_history.proofs.laws.kept_puts_are_effective.Goals as goal

pub returns : goal.returns
returns c = effective_both
