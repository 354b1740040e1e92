use Rattle.std.proofs.Common.{◌≡◌, ℕ, [], length}
use Rattle.chain_builder.specs.Rows.{row}
use Rattle.chain_builder.proofs.rows.empty_rows.Given as goal

abbrev pub invariant-loop : goal.invariant-loop
invariant-loop l = record {
  wide : length l.table ≡ l.counter;
  empty : (b : ℕ) → row l.table b ≡ [];
}
