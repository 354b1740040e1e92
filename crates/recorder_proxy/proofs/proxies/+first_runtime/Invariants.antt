use Rattle.std.proofs.Common.{◌≡◌, drop}
use Rattle.recorder_proxy.specs.Proxies.{first_runtime}
use Rattle.recorder_proxy.proofs.proxies.+first_runtime.Given as goal

abbrev pub invariant-first_runtime-loop-value : goal.invariant-first_runtime-loop-value
invariant-first_runtime-loop-value l = first_runtime (drop l.value-index l.values) ≡ first_runtime l.values
