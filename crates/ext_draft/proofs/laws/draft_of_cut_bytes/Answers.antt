use Rattle.ext_draft.proofs.Cut.{draft_cut}
use Rattle.ext_draft.proofs.laws.draft_of_cut_bytes.Goals as goal

pub returns : goal.returns
returns c = draft_cut
