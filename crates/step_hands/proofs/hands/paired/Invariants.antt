use Rattle.std.proofs.Common.{◌≡◌, ◌+◌, length, vec_len}
use Rattle.step_hands.proofs.hands.paired.Given as goal

abbrev pub invariant-loop-own : goal.invariant-loop-own
invariant-loop-own l = (vec_len l.all + length l.own-iterator.a.rest.items ≡ vec_len l.fn.owners) × (vec_len l.all + length l.own-iterator.b.rest.items ≡ vec_len l.fn.stealers)
