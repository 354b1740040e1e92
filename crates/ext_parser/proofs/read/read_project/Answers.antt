use Rattle.ext_parser.proofs.Numbers.{kept-answer, HasNumbers}
use Rattle.ext_parser.proofs.Sound.{HasFit}
use Rattle.ext_parser.proofs.read.read_project.Goals as goal

pub returns-clause-numbered : goal.returns-clause-numbered
returns-clause-numbered c = kept-answer HasNumbers c.read_bytes.result c.args.bytes.now (c.project_is_numbered.ensures c.args.bytes.now) c.read_bytes.ensures

pub returns-clause-fits : goal.returns-clause-fits
returns-clause-fits c = kept-answer HasFit c.read_bytes.result c.args.bytes.now (c.project_fits.ensures c.args.bytes.now) c.read_bytes.ensures
