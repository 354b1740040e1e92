use Rattle.build_state.proofs.Calls.{least_some, least_none}
use Rattle.build_state.proofs.state.BuildState.least.Goals as goal

pub returns-clause-some : goal.returns-clause-some
returns-clause-some c = least_some _ _ c.self.view_is _ _ _ _ _ c.self.invariant c.least.result c.least.ensures.member c.least.ensures.least

pub returns-clause-none : goal.returns-clause-none
returns-clause-none c = least_none _ _ c.self.view_is _ _ _ _ _ c.self.invariant c.least.result c.least.ensures.none
