use Rattle.std.proofs.Common.{◌≡◌, ◌+◌, length, take}
use Rattle.name_index.proofs.index.Index.truncate.Given as goal

-- what is to stay is there, and each turn takes one of the others away
abbrev pub invariant-loop : goal.invariant-loop
invariant-loop l = (take l.len l.self ≡ take l.len l.fn.self) × (length l.self + l.counter ≡ l.end + l.len)
