use Rattle.step_hands.proofs.Below.{takes}
use Rattle.step_hands.proofs.protocol.steal.Goals as goal

pub steal_as-requires-clause-takes : goal.steal_as-requires-clause-takes
steal_as-requires-clause-takes c = takes _ tt 1
