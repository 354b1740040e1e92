use Rattle.recorder_proxy.proofs.Coming.{IsPlayable-insert}
use Rattle.recorder_proxy.proofs.laws.insert_law.Goals as goal

pub returns : goal.returns
returns c = λ most most_cells most_text h m. IsPlayable-insert most most_cells most_text c.args.before.now c.args.recording.now c.args.after.now h m
