use Rattle.ext_draft.proofs.Kept.{answer-keeps}
use Rattle.ext_draft.proofs.read.read_draft.Goals as goal

pub returns-clause-limits : goal.returns-clause-limits
returns-clause-limits c = answer-keeps c.read_bytes.result c.args.bytes.now c.read_bytes.ensures
