use Rattle.std.proofs.Common.{take}
use Rattle.chain_builder.specs.Search.{Visits}
use Rattle.chain_builder.proofs.needed.visit_all.Given as goal

abbrev pub invariant-loop-s : goal.invariant-loop-s
invariant-loop-s l = Visits l.fn.found l.fn.wanted (take l.s-index l.producers) l.consumed l.found l.wanted
