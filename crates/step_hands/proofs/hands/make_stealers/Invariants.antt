use Rattle.std.proofs.Common.{◌≡◌, vec_len}
use Rattle.step_hands.proofs.hands.make_stealers.Given as goal

abbrev pub invariant-loop-worker : goal.invariant-loop-worker
invariant-loop-worker l = vec_len l.stealers ≡ l.worker
