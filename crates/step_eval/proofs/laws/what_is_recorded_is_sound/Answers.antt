use Rattle.step_eval.specs.BodyMeaning.{given}
use Rattle.step_eval.proofs.Sound.{records_soundly}
use Rattle.step_eval.proofs.laws.what_is_recorded_is_sound.Goals as goal

pub returns : goal.returns
returns c = λ names decl step body inputs puts calls e. records_soundly (given names decl step inputs) body.stmts puts calls e
