use Rattle.recorder_proxy.proofs.Coming.{IsPlayable-take}
use Rattle.recorder_proxy.proofs.laws.prefix_law.Goals as goal

pub returns : goal.returns
returns c = λ most most_cells most_text h. IsPlayable-take most most_cells most_text c.args.count c.args.recordings.now h
