use Rattle.std.proofs.Common.{◌≡◌, ◌+◌, drop}
use Rattle.recorder_proxy.specs.Sizes.{text_of}
use Rattle.recorder_proxy.proofs.sizes.text_of.Given as goal

abbrev pub invariant-loop-call : goal.invariant-loop-call
invariant-loop-call l = l.total + text_of (drop l.call-index l.call-items) ≡ text_of l.call-items
