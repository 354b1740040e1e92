use Rattle.std.proofs.Common.{◌≡◌, ◌+◌, drop}
use Rattle.recorder_proxy.specs.Sizes.{cells_of}
use Rattle.recorder_proxy.proofs.sizes.cells_of.Given as goal

abbrev pub invariant-loop-call : goal.invariant-loop-call
invariant-loop-call l = l.total + cells_of (drop l.call-index l.call-items) ≡ cells_of l.call-items
