use Rattle.std.proofs.Common.{sym, subst}
use Rattle.step_eval.specs.BoundedOutcome.{HasBoundedValues}
use Rattle.build_state.proofs.Moves.{hand_call, ready_bounded}
use Rattle.build_state.proofs.state.BuildState.keep_outcome.Goals as goal

pub invariant_of-self : goal.invariant_of-self
invariant_of-self c =
    let took = ready_bounded _ _ c.self.view_is _ _ _ _ _ c.self.invariant c.args.step c.requires.range c.requires.ready c.events-events.ensures.bounded in
    let small = subst HasBoundedValues (sym c.requires.meant) (c.meanings_are_bounded.ensures _ _ _ took) in
    hand_call _ _ c.self.view_is _ _ _ _ _ _ _ c.self.invariant c.args.step c.requires.range c.requires.ready
    c.index_mut.result.now _ c.args.outcome c.index_mut.ensures.value c.requires.meant small c.settle.ensures
    c.in-Ok.ensures.events c.in-Ok.ensures.store c.in-Ok.ensures.room c.in-Ok.ensures.keyed
