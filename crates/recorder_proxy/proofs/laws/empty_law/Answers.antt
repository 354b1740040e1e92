use Rattle.recorder_proxy.proofs.Coming.{IsPlayable-nil}
use Rattle.recorder_proxy.proofs.laws.empty_law.Goals as goal

pub returns : goal.returns
returns c = IsPlayable-nil
