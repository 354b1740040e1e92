use Rattle.std.proofs.Common.{◌<◌, take, Contains}
use Rattle.item_types.specs.declared.step.Consume.{Consume}
use Rattle.chain_builder.proofs.numbered.are_consumed_below.Given as goal

abbrev pub invariant-loop-c : goal.invariant-loop-c
invariant-loop-c l = (x : Consume) → Contains (take l.c-index l.consumes) x → x.item < l.count
