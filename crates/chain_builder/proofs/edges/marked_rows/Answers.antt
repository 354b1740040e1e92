use Rattle.std.proofs.Common.{◌≡◌, ℕ, List, arith, subst, sym, Contains}
use Rattle.chain_builder.specs.Rows.{row}
use Rattle.chain_builder.proofs.RowLemmas.{row_read}
use Rattle.chain_builder.proofs.EdgeLemmas.{marked_more, marked_all}
use Rattle.chain_builder.proofs.edges.marked_rows.Goals as goal

pub loop-a-preserved : goal.loop-a-preserved
loop-a-preserved c =
    let is : row c.args.rows.now c.loop-a.a ≡ c.index-rows-a.result = row_read c.args.rows.now c.loop-a.a c.index-rows-a.result (omega arith) c.index-rows-a.is in
    rw c.in_ok-push.ensures.ok (marked_more c.args.marks.now.items c.args.rows.now c.loop-a.kept c.loop-a.a c.in_ok-row_if.field-0 (λ b. (
      λ h. let f = (c.in_ok-row_if.ensures b).0 h in (c.contains.ensures.0 f.0, subst (λ (xs : List ℕ). Contains xs b) (sym is) f.1),
      λ f. (c.in_ok-row_if.ensures b).1 (c.contains.ensures.1 f.0, subst (λ (xs : List ℕ). Contains xs b) is f.1),
    )) c.loop-a.invariant)

pub returns-clause-rows : goal.returns-clause-rows
returns-clause-rows c = marked_all c.args.marks.now.items c.args.rows.now c.loop-a.kept c.loop-a.a (omega arith) c.loop-a.invariant
