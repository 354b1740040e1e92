use Rattle.std.proofs.Common.{◌≡◌, take, All}
use Rattle.build_history.specs.Scripts.{kept}
use Rattle.build_state.specs.Rooms.{IsKeyed, IsRoomier, HasMore}
use Rattle.build_state.proofs.puts.make_room.Given as goal

abbrev pub invariant-loop-put : goal.invariant-loop-put
invariant-loop-put l = record {
  events : l.history.events ≡ l.initial.history.events;
  names : l.store.names ≡ l.job.names;
  store : IsRoomier l.initial.store l.store;
  more : HasMore l.initial.history.spare l.history.spare l.initial.store l.store (kept l.job l.step (take l.put-index l.puts));
  keyed : All (IsKeyed l.job.names) (kept l.job l.step (take l.put-index l.puts));
}
