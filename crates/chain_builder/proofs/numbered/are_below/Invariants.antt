use Rattle.std.proofs.Common.{ℕ, ◌<◌, take, Contains}
use Rattle.chain_builder.proofs.numbered.are_below.Given as goal

abbrev pub invariant-loop-t : goal.invariant-loop-t
invariant-loop-t l = (x : ℕ) → Contains (take l.t-index l.list) x → x < l.count
