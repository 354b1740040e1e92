use Rattle.std.proofs.Common.{◌≡◌, ◌+◌, drop, sum_by}
use Rattle.item_types.specs.Measure.{cells}
use Rattle.recorder_proxy.proofs.sizes.cells_of_all.Given as goal

abbrev pub invariant-loop-value : goal.invariant-loop-value
invariant-loop-value l = l.total + sum_by cells (drop l.value-index l.values) ≡ sum_by cells l.values
