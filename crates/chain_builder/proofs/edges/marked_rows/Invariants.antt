use Rattle.chain_builder.proofs.EdgeLemmas.{AreMarkedUpTo}
use Rattle.chain_builder.proofs.edges.marked_rows.Given as goal

abbrev pub invariant-loop-a : goal.invariant-loop-a
invariant-loop-a l = AreMarkedUpTo l.marks.items l.rows l.kept l.a
