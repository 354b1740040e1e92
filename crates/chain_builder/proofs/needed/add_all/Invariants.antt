use Rattle.std.proofs.Common.{take}
use Rattle.chain_builder.specs.Marks.{AddsAll}
use Rattle.chain_builder.proofs.needed.add_all.Given as goal

abbrev pub invariant-loop-x : goal.invariant-loop-x
invariant-loop-x l = AddsAll l.fn.marks (take l.x-index l.list) l.marks
