use Rattle.std.proofs.Common.{◌≡◌, ◌↔◌, ◌<◌, ℕ, get_or, length, true, false}
use Rattle.chain_builder.specs.ChainFaults.{Lacks}
use Rattle.chain_builder.proofs.faults.lacking_items.Given as goal

abbrev pub invariant-loop-t : goal.invariant-loop-t
invariant-loop-t l = record {
  count : length l.lacking ≡ l.t;
  flags : (t : ℕ) → t < l.t → (get_or l.lacking t false ≡ true) ↔ Lacks l.steps l.items l.finals t;
}
