use Rattle.std.proofs.Common.{ℕ, take, Contains}
use Rattle.chain_builder.specs.Rows.{row, IsRowUpTo, AddsToRows}
use Rattle.chain_builder.proofs.rows.note_all.Given as goal

abbrev pub invariant-loop-key : goal.invariant-loop-key
invariant-loop-key l = record {
  adds : AddsToRows l.fn.table.items (Contains (take l.key-index l.keys)) l.x l.table.items;
  rising : (b : ℕ) → IsRowUpTo l.x (row l.table.items b);
}
