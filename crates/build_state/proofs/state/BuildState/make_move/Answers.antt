use Rattle.std.proofs.Common.{subst, sym, inl, rules}
use Rattle.build_state.specs.declared.act.Act.{Act}
use Rattle.build_state.specs.declared.act.Act.TheVariants.{Put, Fail}
use Rattle.build_state.specs.Plays.{Holds, Acts}
use Rattle.build_state.proofs.Playing.{put_does, put_job, fail_job}
use Rattle.build_state.proofs.state.BuildState.make_move.Goals as goal

pub returns-in-Put-clause-job : goal.returns-in-Put-clause-job
returns-in-Put-clause-job c =
    let may : Holds c.args.self.now (Put c.in-Put.step) = search rules in
    put_job c.in-Put.step c.args.self.now c.put.new.self may.2.1 c.put.ensures

pub returns-in-Put-clause-acts : goal.returns-in-Put-clause-acts
returns-in-Put-clause-acts c =
    let may : Holds c.args.self.now (Put c.in-Put.step) = search rules in
    let P : Act → Type 0 = λ a. Acts c.args.self.now a c.put.new.self in
    subst P (sym c.in-Put.is) (inl (may, put_does c.in-Put.step c.args.self.now c.put.new.self may.2.1 c.put.ensures))

pub returns-in-Fail-clause-job : goal.returns-in-Fail-clause-job
returns-in-Fail-clause-job c =
    let may : Holds c.args.self.now (Fail c.in-Fail.step) = search rules in
    fail_job c.in-Fail.step c.args.self.now c.fail.new.self c.stands-in-Fail.ensures.state may.0 may.2 c.fail.ensures
