use Rattle.std.proofs.Common.{arith, length, ap, ◌<◌}
use Rattle.world_text.proofs.Within.{graph_within}
use Rattle.world_text.proofs.numbering.Numbers.new.Goals as goal

pub numbers_of-requires : goal.numbers_of-requires
numbers_of-requires c = λ k d h. omega (arith, graph_within c.args.world.now c.in_ok-order.order c.in_ok-order.ensures k d h, ap length c.objects.ensures)
