use Rattle.build_state.proofs.Playing.{played_by}
use Rattle.build_state.proofs.state.BuildState.play.Goals as goal

pub returns-clause-played : goal.returns-clause-played
returns-clause-played c =
    played_by c.args.job.now c.args.moves.now c.in_ok-state.state c.make_moves.new.self c.drain.new.self c.in_ok-state.ensures.job c.in_ok-state.ensures.history c.in_ok-state.ensures.slots c.in_ok-state.ensures.going
    c.make_moves.ensures.job c.in_ok-make_moves.ensures.plays c.drain.ensures.history c.drain.ensures.turns
