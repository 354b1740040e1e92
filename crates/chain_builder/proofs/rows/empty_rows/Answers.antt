use Rattle.std.proofs.Common.{◌+◌, ◌∙◌, ap, length}
use Rattle.std.proofs.lemmas.List.{length_push}
use Rattle.chain_builder.proofs.RowLemmas.{empty_push}
use Rattle.chain_builder.proofs.rows.empty_rows.Goals as goal

pub loop-preserved : goal.loop-preserved
loop-preserved c = record {
  wide = ap length c.in_ok-push.ensures.ok ∙ (length_push c.loop.table c.new.result ∙ ap (λ n. n + 1) c.loop.invariant.wide);
  empty = rw c.in_ok-push.ensures.ok (empty_push c.loop.table c.new.result c.new.ensures c.loop.invariant.empty);
}
