use Rattle.std.proofs.Common.{◌≡◌, ◌+◌, drop, sum_by}
use Rattle.item_types.specs.Measure.{text_len}
use Rattle.recorder_proxy.proofs.sizes.text_of_all.Given as goal

abbrev pub invariant-loop-value : goal.invariant-loop-value
invariant-loop-value l = l.total + sum_by text_len (drop l.value-index l.values) ≡ sum_by text_len l.values
