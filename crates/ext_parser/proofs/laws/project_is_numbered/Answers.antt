use Rattle.ext_parser.proofs.Numbers.{project-numbered}
use Rattle.ext_parser.proofs.laws.project_is_numbered.Goals as goal

pub returns : goal.returns
returns c = λ bytes. project-numbered bytes c.fitting_is_numbered.ensures (c.project_fits.ensures bytes)
