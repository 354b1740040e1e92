use Rattle.std.proofs.Common.{refl}
use Rattle.build_state.proofs.Moves.{claim_call}
use Rattle.build_state.proofs.state.BuildState.claim_step.Goals as goal

pub invariant_of-self-2 : goal.invariant_of-self-2
invariant_of-self-2 c =
    claim_call _ _ c.self.view_is _ _ _ _ _ _ _ _ refl c.self.invariant c.args.step c.requires.range c.requires.released c.requires.going
    _ _ _ c.index_mut.ensures.value c.decl.ensures c.mark_after-mark.ensures c.in_ok-reserve.ensures.ok c.add.ensures c.remove.ensures.room c.remove.ensures.without
