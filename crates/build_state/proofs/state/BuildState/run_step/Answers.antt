use Rattle.std.proofs.Common.{subst, sym}
use Rattle.build_state.specs.Built.{Built}
use Rattle.build_state.specs.Going.{GoesOn}
use Rattle.build_state.proofs.Going.{goes_trans, evaluated_goes}
use Rattle.build_state.proofs.state.BuildState.run_step.Goals.{then-eq+in_ok-evaluate, else-eq}
use Rattle.build_state.proofs.state.BuildState.run_step.Goals as goal

pub returns-clause-goes : goal.returns-clause-goes
returns-clause-goes c =
    let P : Built → Type 0 = λ x. GoesOn c.args.step c.args.self.now x in
    let before : GoesOn c.args.step c.args.self.now c.if-eq.self = elim c.if-eq.branch [
      | then-eq+in_ok-evaluate w ↦
          subst P (sym w.self-is) (goes_trans c.args.step c.args.self.now c.take_all.new.self w.evaluate.new.self c.take_all.ensures.goes (evaluated_goes c.args.step c.take_all.new.self w.evaluate.new.self _ w.in_ok-evaluate.ensures.ok))
      | else-eq w ↦ subst P (sym w.self-is) c.take_all.ensures.goes
    ] in
    goes_trans c.args.step c.args.self.now c.if-eq.self c.close.new.self before c.close.ensures.goes
