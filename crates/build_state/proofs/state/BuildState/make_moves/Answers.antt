use Rattle.std.proofs.Common.{◌∙◌, arith}
use Rattle.build_state.proofs.Playing.{plays_step, plays_whole}
use Rattle.build_state.proofs.state.BuildState.make_moves.Goals as goal

pub loop-act-preserved : goal.loop-act-preserved
loop-act-preserved c = record {
  job = c.in_ok-make_move.ensures.job ∙ c.loop-act.invariant.job;
  plays = plays_step _ _ _ _ _ _ c.loop-act-test.true c.loop-act.invariant.plays c.in_ok-make_move.ensures.acts;
}

pub returns-clause-plays : goal.returns-clause-plays
returns-clause-plays c = plays_whole c.args.self.now c.loop-act.self c.args.moves.now c.loop-act.act-index (omega (arith, c.loop-act-test.false)) c.loop-act.invariant.plays
