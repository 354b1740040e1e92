use Rattle.std.proofs.Common.{refl, sym, ◌∙◌}
use Rattle.build_state.proofs.Moves.{failing_has}
use Rattle.build_state.proofs.Calls.{fail_kept}
use Rattle.build_state.proofs.state.BuildState.fail.Goals as goal

pub invariant_of-self : goal.invariant_of-self
invariant_of-self c =
    let has = failing_has _ _ c.self.view_is _ _ _ _ _ refl c.self.invariant c.args.step c.requires.range c.requires.failing in
    fail_kept _ _ c.self.view_is _ _ _ _ _ _ refl c.self.invariant c.args.step c.requires.range c.requires.failing c.requires.going
    c.index_mut-slot.result.now _ _ c.index_mut-slot.ensures.value (sym c.take.ensures.value ∙ c.in-Some.is) c.take.ensures.after has.2 c.add.ensures
