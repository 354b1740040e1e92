use Rattle.std.proofs.Common.{◌≡◌, ◌++◌, drop, map}
use Rattle.std.specs.List.{flat_map}
use Rattle.recorder_proxy.specs.Proxies.{proxies}
use Rattle.recorder_proxy.proofs.proxies.+push_proxies.Given as goal

abbrev pub invariant-loop-part : goal.invariant-loop-part
invariant-loop-part l = l.found ++ flat_map (λ ps. ps) (map proxies (drop l.part-index l.part-items)) ≡ l.initial.found ++ proxies l.value
