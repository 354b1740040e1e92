use Rattle.std.proofs.Common.{ap}
use Rattle.ext_parser.specs.ProjectOfTheBytes.{project, project_of_draft}
use Rattle.ext_parser.proofs.laws.project_of_cut_bytes.Goals as goal

pub returns : goal.returns
unfolding project
returns c = λ bytes. ap project_of_draft (c.draft_of_cut_bytes.ensures bytes)
