use Rattle.std.proofs.Common.{◌≡◌, ◌<◌, ◌-◌, length}
use Rattle.chain_builder.proofs.CycleLemmas.{IsWalking}
use Rattle.chain_builder.proofs.cycle.walk_back.Given as goal

abbrev pub invariant-loop-walk : goal.invariant-loop-walk
invariant-loop-walk l = record {
  limit : l.walk.limit ≡ length l.into;
  within : l.step < length l.into;
  walking : IsWalking l.into l.removed.items l.start l.walk.items l.step;
}

abbrev pub decreases-loop-walk : goal.decreases-loop-walk
decreases-loop-walk l = length l.into - length l.walk.items
