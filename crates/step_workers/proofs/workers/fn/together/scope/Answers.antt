use denote.Param.Send.{sendable}
use Rattle.std.proofs.Crossing.{crosses}
use Rattle.step_hands.proofs.hands.Hands.TheSendSync as hands
use Rattle.step_workers.proofs.Crossing.{desk-sync}
use Rattle.step_workers.proofs.workers.fn.together.scope.Goals as goal

pub spawn-requires-send-F : goal.spawn-requires-send-F
spawn-requires-send-F g c κs within = search (sendable, crosses, hands.the_send, desk-sync) depth 20 fits 8000
