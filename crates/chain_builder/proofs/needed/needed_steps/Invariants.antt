use Rattle.std.proofs.Common.{◌≡◌, length, ◌-◌}
use Rattle.chain_builder.proofs.NeededLemmas.{IsSearch}
use Rattle.chain_builder.proofs.needed.needed_steps.Given as goal

abbrev pub invariant-loop-at : goal.invariant-loop-at
invariant-loop-at l = record {
  found_limit : l.found.limit ≡ length l.steps;
  wanted_limit : l.wanted.limit ≡ length l.producers;
  search : IsSearch l.steps l.finals l.found l.wanted l.at;
}

abbrev pub decreases-loop-at : goal.decreases-loop-at
decreases-loop-at l = length l.producers - l.at
