use Rattle.std.proofs.Common.{◌∙◌, ap, List, ℕ, [], ◌∷◌, ◌++◌}
use Rattle.ext_parser.proofs.Rows.{known-on}
use Rattle.ext_parser.proofs.lists.all_known.Goals as goal

pub loop-index-preserved : goal.loop-index-preserved
loop-index-preserved g c =
    known-on g.M.Named.named c.args.all.now c.args.path.now c.loop-index.index c.loop-index.before c.in_ok-before-in-Ok.before c.args.entries.now c.index-entries-index.result
    _ c.loop-index.invariant c.loop-index-test.true c.index-entries-index.is
    (rw c.named.ensures at c.in-Ok.ensures)
    (c.in_ok-before-in-Ok.ensures ∙ ap (λ (n : List ℕ). c.loop-index.before ++ n ∷ []) c.named-in-Ok.ensures)
