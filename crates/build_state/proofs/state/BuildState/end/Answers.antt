use Rattle.std.proofs.Common.{refl, ◌∙◌}
use Rattle.build_state.proofs.Calls.{told_in, end_both, room_made}
use Rattle.build_state.proofs.state.BuildState.end.Goals as goal

pub insert_all-requires : goal.insert_all-requires
insert_all-requires c = told_in _ _ c.self.view_is _ _ _ _ _ c.self.invariant c.args.step c.requires.range c.requires.putting _ c.plan.ensures.value _ _ c.as_slice.ensures c.in_ok-told.ensures.told

pub invariant_of-self-in_err-told : goal.invariant_of-self-in_err-told
invariant_of-self-in_err-told c = room_made _ _ _ _ _ _ _ _ _ c.self.invariant c.in_ok-reserve.ensures.ok c.in_err-told.ensures.err

pub invariant_of-self-2 : goal.invariant_of-self-2
invariant_of-self-2 c =
    (end_both _ _ c.self.view_is _ _ _ _ _ _ _ _ _ refl c.self.invariant c.args.step c.requires.range c.requires.putting c.requires.done c.requires.going
    _ _ c.plan.ensures.value c.plan.ensures.value _ _ _ c.as_slice.ensures c.as_slice-2.ensures c.in_ok-told.ensures.told c.insert_all.ensures.room c.insert_all.ensures.with c.in_ok-told.ensures.counts
    c.index_mut-slot.result.now _ _ _ c.index_mut-slot.ensures.value (c.replace-calls.ensures.after ∙ c.new.ensures) c.release.ensures c.replace-calls.ensures.value c.in_ok-reserve.ensures.ok c.add.ensures).0

pub returns-clause-ok : goal.returns-clause-ok
returns-clause-ok c =
    (end_both _ _ c.self.view_is _ _ _ _ _ _ _ _ _ refl c.self.invariant c.args.step c.requires.range c.requires.putting c.requires.done c.requires.going
    _ _ c.plan.ensures.value c.plan.ensures.value _ _ _ c.as_slice.ensures c.as_slice-2.ensures c.in_ok-told.ensures.told c.insert_all.ensures.room c.insert_all.ensures.with c.in_ok-told.ensures.counts
    c.index_mut-slot.result.now _ _ _ c.index_mut-slot.ensures.value (c.replace-calls.ensures.after ∙ c.new.ensures) c.release.ensures c.replace-calls.ensures.value c.in_ok-reserve.ensures.ok c.add.ensures).1

pub returns-clause-released : goal.returns-clause-released
returns-clause-released c =
    (end_both _ _ c.self.view_is _ _ _ _ _ _ _ _ _ refl c.self.invariant c.args.step c.requires.range c.requires.putting c.requires.done c.requires.going
    _ _ c.plan.ensures.value c.plan.ensures.value _ _ _ c.as_slice.ensures c.as_slice-2.ensures c.in_ok-told.ensures.told c.insert_all.ensures.room c.insert_all.ensures.with c.in_ok-told.ensures.counts
    c.index_mut-slot.result.now _ _ _ c.index_mut-slot.ensures.value (c.replace-calls.ensures.after ∙ c.new.ensures) c.release.ensures c.replace-calls.ensures.value c.in_ok-reserve.ensures.ok c.add.ensures).2
