use Rattle.std.proofs.Common.{◌≡◌, take}
use Rattle.build_state.specs.Keeping.{values_kept}
use Rattle.build_state.proofs.puts.seconds.Given as goal

abbrev pub invariant-loop-put : goal.invariant-loop-put
invariant-loop-put l = l.again ≡ values_kept l.job l.step (take l.put-index l.puts)
