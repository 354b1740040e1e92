use Rattle.std.proofs.Common.{◌<◌, take, Contains}
use Rattle.item_types.specs.declared.step.Produce.{Produce}
use Rattle.chain_builder.proofs.numbered.are_produced_below.Given as goal

abbrev pub invariant-loop-p : goal.invariant-loop-p
invariant-loop-p l = (x : Produce) → Contains (take l.p-index l.produces) x → x.item < l.count
