use Rattle.project_generator.specs.Generated.{body_key, consumes_key, name_key, phase_of, produces_key, record_key}
use Rattle.project_generator.proofs.Pieces.{five}
use Rattle.project_generator.proofs.step_line.push_step.Goals as goal

pub returns : goal.returns
returns c =
    let step = c.args.step in
    five _ _ _ _ _ _ (name_key step) (consumes_key step) (produces_key step) (record_key (phase_of step)) (body_key step) c.in_ok-write.ensures.bytes
    c.in_ok-push_consumes.ensures c.in_ok-push_produces.ensures (rw (← c.phase_of.ensures) c.in_ok-push_record.ensures) c.in_ok-push_body.ensures
