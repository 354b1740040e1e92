use Rattle.std.proofs.Common.{refl, ◌∙◌}
use Rattle.build_state.proofs.Calls.{take_both, spare_sound}
use Rattle.build_state.proofs.state.BuildState.take.Goals as goal

pub invariant_of-self-2 : goal.invariant_of-self-2
invariant_of-self-2 c =
    (take_both _ _ c.self.view_is _ _ _ _ _ _ _ refl c.self.invariant c.args.step c.requires.range c.requires.taking c.requires.going
    _ c.plan.ensures.value c.accepted.ensures.numbered c.plan.ensures.fit _ c.index_mut-slot.result.now _ _ _ _ _ _ _
    c.index.ensures c.index_mut-slot.ensures.value c.decl-decl.ensures c.as_slice.ensures c.len-done.ensures c.in_ok-values.ensures.value
    (c.in_ok-copy.ensures ∙ c.as_slice-2.ensures) c.mark_after-mark.ensures c.in_ok-push.ensures.ok c.in_ok-reserve.ensures.ok c.add.ensures).0

pub invariant_of-self-in_err-push : goal.invariant_of-self-in_err-push
invariant_of-self-in_err-push c =
    spare_sound _ _ _ _ _ _ _ _ _ c.index_mut-slot.result.now _ c.self.invariant c.in_ok-reserve.ensures.ok c.index_mut-slot.ensures.value c.in_err-push.ensures.err

pub returns-clause-ok : goal.returns-clause-ok
returns-clause-ok c =
    (take_both _ _ c.self.view_is _ _ _ _ _ _ _ refl c.self.invariant c.args.step c.requires.range c.requires.taking c.requires.going
    _ c.plan.ensures.value c.accepted.ensures.numbered c.plan.ensures.fit _ c.index_mut-slot.result.now _ _ _ _ _ _ _
    c.index.ensures c.index_mut-slot.ensures.value c.decl-decl.ensures c.as_slice.ensures c.len-done.ensures c.in_ok-values.ensures.value
    (c.in_ok-copy.ensures ∙ c.as_slice-2.ensures) c.mark_after-mark.ensures c.in_ok-push.ensures.ok c.in_ok-reserve.ensures.ok c.add.ensures).1
