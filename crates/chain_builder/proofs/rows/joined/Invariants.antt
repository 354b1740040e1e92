use Rattle.std.proofs.Common.{◌≡◌, vec_len}
use Rattle.chain_builder.specs.Rows.{row, IsLinkedWith}
use Rattle.chain_builder.proofs.RowLemmas.{IsMade}
use Rattle.chain_builder.proofs.rows.joined.Given as goal

abbrev pub invariant-loop-a : goal.invariant-loop-a
invariant-loop-a l = record {
  wide : vec_len l.table ≡ l.width;
  made : IsMade (λ a c. IsLinkedWith l.links (row l.rows a) c) l.table.items l.a;
}
