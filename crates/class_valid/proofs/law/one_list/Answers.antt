use Rattle.class_valid.proofs.Spelled.{one_list}
use Rattle.class_valid.proofs.law.one_list.Goals as goal

pub returns : goal.returns
returns c = one_list
