use Rattle.std.proofs.Common.{◌∙◌, sym, subst, take, ◌∷◌, [], List, All}
use Rattle.std.proofs.lemmas.List.Elements.{All-append}
use Rattle.build_history.specs.Scripts.{kept}
use Rattle.build_state.specs.Rooms.{IsKeyed, HasMore}
use Rattle.build_state.specs.Twins.{Put}
use Rattle.build_state.proofs.Twins.{kept_take, more_room, roomier_more}
use Rattle.build_state.proofs.puts.make_room.Goals as goal

pub loop-put-preserved : goal.loop-put-preserved
loop-put-preserved c =
    let before : List Put = kept c.args.job.now c.args.step (take c.loop-put.put-index c.args.puts.now) in
    let here : List Put = kept c.args.job.now c.args.step (c.put-item.result ∷ []) in
    let longer = sym (kept_take c.args.job.now c.args.step c.args.puts.now c.loop-put.put-index c.put-item.result c.loop-put-test.true c.put-item.is) in
    record {
      events = c.make_room_for.ensures.events ∙ c.loop-put.invariant.events;
      names = c.make_room_for.ensures.store.names ∙ c.loop-put.invariant.names;
      store = roomier_more c.args.store.now c.loop-put.store c.make_room_for.new.store c.loop-put.invariant.store c.make_room_for.ensures.store;
      more = subst (HasMore c.args.history.now.spare c.make_room_for.new.history.spare c.args.store.now c.make_room_for.new.store) longer
          (more_room c.args.history.now.spare c.loop-put.history.spare c.make_room_for.new.history.spare c.args.store.now c.loop-put.store c.make_room_for.new.store before here c.loop-put.invariant.more c.in_ok-make_room_for.ensures.ok);
      keyed = subst (All (IsKeyed c.args.job.now.names)) longer (All-append (IsKeyed c.args.job.now.names) before here c.loop-put.invariant.keyed c.in_ok-make_room_for.ensures.keyed);
    }
