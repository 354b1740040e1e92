use Rattle.build_state.proofs.Draining.{drains_trans, drained_history, drained_turns}
use Rattle.build_state.proofs.state.BuildState.drain.Goals as goal

pub returns-clause-history : goal.returns-clause-history
returns-clause-history c =
    drained_history _ _ c.self.view_is c.run_released.new.self (drains_trans _ c.end_started.new.self c.run_released.new.self c.end_started.ensures.drains c.run_released.ensures.drains)

pub returns-clause-turns : goal.returns-clause-turns
returns-clause-turns c =
    drained_turns _ _ c.self.view_is c.run_released.new.self (drains_trans _ c.end_started.new.self c.run_released.new.self c.end_started.ensures.drains c.run_released.ensures.drains)
