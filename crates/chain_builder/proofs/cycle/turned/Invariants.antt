use Rattle.std.proofs.Common.{◌≡◌, ◌-◌, take, drop, reverse}
use Rattle.chain_builder.proofs.cycle.turned.Given as goal

abbrev pub invariant-loop-k : goal.invariant-loop-k
invariant-loop-k l = l.backwards ≡ take (l.k - l.back) (reverse (drop l.back l.walk))
