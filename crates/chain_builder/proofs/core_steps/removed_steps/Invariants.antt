use Rattle.std.proofs.Common.{◌≡◌, ◌<◌, ◌≤◌, ◌+◌, ◌-◌, length, drop, Contains, vec_len}
use Rattle.chain_builder.proofs.CoreLemmas.{IsPeeling}
use Rattle.chain_builder.proofs.core_steps.removed_steps.Given as goal

abbrev pub invariant-loop-s : goal.invariant-loop-s
invariant-loop-s l = record {
  limit : l.removed.limit ≡ length l.into;
  width : vec_len l.next ≡ length l.into;
  peeling : IsPeeling l.into l.removed l.next.items 0 (λ s. l.s ≤ s);
}

abbrev pub invariant-loop-at : goal.invariant-loop-at
invariant-loop-at l = record {
  limit : l.removed.limit ≡ length l.into;
  width : vec_len l.next ≡ length l.into;
  peeling : IsPeeling l.into l.removed l.next.items l.at (λ s. s < 0);
}

abbrev pub invariant-loop-d : goal.invariant-loop-d
invariant-loop-d l = record {
  limit : l.removed.limit ≡ length l.into;
  width : vec_len l.next ≡ length l.into;
  within : l.at < length l.removed.items;
  peeling : IsPeeling l.into l.removed l.next.items (l.at + 1) (λ s. Contains (drop l.d-index l.waiting) s);
}

abbrev pub decreases-loop-at : goal.decreases-loop-at
decreases-loop-at l = length l.into - l.at
