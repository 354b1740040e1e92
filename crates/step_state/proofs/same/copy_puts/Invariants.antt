use Rattle.std.proofs.Common.{◌≡◌, take}
use Rattle.step_state.proofs.same.copy_puts.Given as goal

abbrev pub invariant-loop-put : goal.invariant-loop-put
invariant-loop-put l = l.copies ≡ take l.put-index l.puts
