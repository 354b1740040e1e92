use Rattle.std.proofs.Common.{◌≡◌, take}
use Rattle.build_state.specs.Plays.{Plays}
use Rattle.build_state.proofs.state.BuildState.make_moves.Given as goal

abbrev pub invariant-loop-act : goal.invariant-loop-act
invariant-loop-act l = record {
  job : l.self.job ≡ l.fn.self.job;
  plays : Plays l.fn.self (take l.act-index l.moves) l.self;
}
