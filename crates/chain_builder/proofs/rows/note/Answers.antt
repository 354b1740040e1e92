use Rattle.std.proofs.Common.{◌≡◌, ℕ, ◌-◌, List, length, get_or, arith, ◌∙◌, ap}
use Rattle.chain_builder.proofs.RowLemmas.{rising_push}
use Rattle.chain_builder.proofs.rows.note.Goals as goal
use Rattle.chain_builder.proofs.rows.note.Goals.{else-count-gt0-via-then-count-gt0+else-as_slice-count, else-count-gt0-via-else-count-gt0}

pub returns-clause-rising : goal.returns-clause-rising
returns-clause-rising c = rw c.in_ok-push.ensures.ok (rising_push _ _ c.requires (λ some e. elim c.else-count-gt0.branch [ else-count-gt0-via-then-count-gt0+else-as_slice-count w ↦ let at : c.len-count.result - 1 ≡ length c.args.row.now - 1 = omega arith in w.if-as_slice-count.false (ap (λ (xs : List ℕ). get_or xs (c.len-count.result - 1) 0) w.as_slice.ensures ∙ (ap (λ n. get_or c.args.row.now n 0) at ∙ e)) | else-count-gt0-via-else-count-gt0 w ↦ absurd (omega arith) ]))
