use Rattle.ext_draft.proofs.Kept.{draft-keeps}
use Rattle.ext_draft.proofs.laws.drafts_keep_limits.Goals as goal

pub returns : goal.returns
returns c = draft-keeps
