use Rattle.recorder_proxy.proofs.Coming.{EachAfter-plain}
use Rattle.recorder_proxy.proofs.laws.plain_law.Goals as goal

pub returns : goal.returns
returns c = EachAfter-plain c.args.recordings.now
