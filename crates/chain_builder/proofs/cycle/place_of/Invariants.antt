use Rattle.std.proofs.Common.{◌≡◌, ℕ, ◌<◌, ◌⊎◌, length, get_or}
use Rattle.chain_builder.proofs.cycle.place_of.Given as goal

abbrev pub invariant-loop-k : goal.invariant-loop-k
invariant-loop-k l = ((l.place < length l.list) × (get_or l.list l.place 0 ≡ l.x)) ⊎ ((j : ℕ) → j < l.k → get_or l.list j 0 ≡ l.x → ⊥)
