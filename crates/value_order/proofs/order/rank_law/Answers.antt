use Rattle.value_order.specs.Found.{number_of}
use Rattle.value_order.proofs.Ranks.{ranks}
use Rattle.value_order.proofs.order.rank_law.Goals as goal

pub returns : goal.returns
returns c = ranks (number_of c.args.names.now c.args.field.now) c.args.values.now
