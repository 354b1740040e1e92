use Rattle.project_generator.specs.Generated.{closing, opening, phase_of, puts, upper}
use Rattle.project_generator.proofs.Pieces.{four}
use Rattle.project_generator.proofs.step_line.push_body.Goals as goal

pub returns : goal.returns
returns c =
    let step = c.args.step in
    four _ _ _ _ _ (opening step) (upper step) (puts step) (closing (phase_of step)) c.in_ok-write.ensures.bytes c.in_ok-push_upper.ensures
    c.in_ok-write-2.ensures.bytes (rw (← c.phase_of.ensures) c.in_ok-push_closing.ensures)
