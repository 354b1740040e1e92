use Rattle.ext_parser.proofs.Sound.{project-fits}
use Rattle.ext_parser.proofs.laws.project_fits.Goals as goal

pub returns : goal.returns
returns c = λ bytes. project-fits bytes (c.drafts_keep_limits.ensures bytes)
