use Rattle.std.proofs.Common.{◌≡◌, vec_len, Contains}
use Rattle.chain_builder.specs.Rows.{row}
use Rattle.chain_builder.proofs.RowLemmas.{IsMade}
use Rattle.chain_builder.proofs.rows.transposed.Given as goal

abbrev pub invariant-loop-a : goal.invariant-loop-a
invariant-loop-a l = record {
  wide : vec_len l.table ≡ l.width;
  made : IsMade (λ a b. Contains (row l.rows a) b) l.table.items l.a;
}
