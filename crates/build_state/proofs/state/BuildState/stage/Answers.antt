use Rattle.std.proofs.Common.{refl}
use Rattle.build_state.proofs.Calls.{shows_waiting}
use Rattle.build_state.proofs.state.BuildState.stage.Goals as goal

pub returns-in-Waiting : goal.returns-in-Waiting
returns-in-Waiting c =
    shows_waiting _ _ c.self.view_is _ _ _ _ _ refl c.self.invariant c.args.step c.requires c.index-slot.result.now c.index-slot.ensures c.in-Waiting.is
    _ (c.remaining.ensures.exact _ _ c.self.invariant.counts_are)
