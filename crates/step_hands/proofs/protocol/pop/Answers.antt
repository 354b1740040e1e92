use Rattle.step_hands.proofs.Below.{takes, pops}
use Rattle.step_hands.proofs.protocol.pop.Goals as goal

pub pop_as-requires-clause-fifo : goal.pop_as-requires-clause-fifo
pop_as-requires-clause-fifo c = λ _. takes _ tt 1

pub pop_as-requires-clause-lifo : goal.pop_as-requires-clause-lifo
pop_as-requires-clause-lifo c = λ _. pops _ tt
