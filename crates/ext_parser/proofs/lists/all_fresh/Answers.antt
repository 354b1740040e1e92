use Rattle.std.proofs.Common.{◌∙◌, ap, List, ℕ, [], ◌∷◌, ◌++◌}
use Rattle.ext_parser.proofs.Rows.{fresh-on}
use Rattle.ext_parser.proofs.lists.all_fresh.Goals as goal

pub loop-index-preserved : goal.loop-index-preserved
loop-index-preserved c =
    fresh-on c.args.path.now c.loop-index.index c.loop-index.before c.in_ok-before-in-Ok.before c.args.texts.now c.index-texts-index.result
    _ c.loop-index.invariant c.loop-index-test.true c.index-texts-index.is
    (rw c.as_str.ensures at c.in-Ok.ensures)
    (c.in_ok-before-in-Ok.ensures ∙ ap (λ (n : List ℕ). c.loop-index.before ++ n ∷ []) c.as_str-in-Ok.ensures)
