use Rattle.std.proofs.Common.{◌≡◌, vec_len}
use Rattle.step_hands.proofs.hands.make_owners.Given as goal

abbrev pub invariant-loop : goal.invariant-loop
invariant-loop l = vec_len l.owners ≡ l.counter
