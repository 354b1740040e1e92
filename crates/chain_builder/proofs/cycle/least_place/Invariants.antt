use Rattle.std.proofs.Common.{ℕ, ◌<◌, ◌≤◌, length, get_or}
use Rattle.chain_builder.proofs.cycle.least_place.Given as goal

abbrev pub invariant-loop-k : goal.invariant-loop-k
invariant-loop-k l = (l.least < length l.list) × ((j : ℕ) → j < l.k → get_or l.list l.least 0 ≤ get_or l.list j 0)
