use Rattle.build_report.proofs.Pieces.{five}
use Rattle.build_report.proofs.build_text.push_failed.Goals as goal

pub returns : goal.returns
returns c =
    five _ _ _ _ _ _ _ _ _ _ _ c.in_ok-push_str.ensures.bytes c.in_ok-push_step.ensures c.in_ok-push_str-2.ensures.bytes (rw c.names.ensures at c.in_ok-push_reason.ensures) c.in_ok-push_str-3.ensures.bytes
