use Rattle.recorder_proxy.proofs.Coming.{CallsNameKept-plain}
use Rattle.recorder_proxy.proofs.laws.plain_recording_law.Goals as goal

pub returns : goal.returns
returns c = CallsNameKept-plain c.args.earlier.now c.args.recording.now
