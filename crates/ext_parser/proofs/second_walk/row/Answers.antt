use Rattle.std.proofs.Common.{◌∙◌, ap, List, ℕ, [], ◌∷◌, ◌++◌}
use Rattle.ext_parser.proofs.Rows.{row-on}
use Rattle.ext_parser.proofs.second_walk.row.Goals as goal

pub loop-index-preserved : goal.loop-index-preserved
loop-index-preserved g c =
    row-on g.D.Named.named (g.D.Declared.inner c.args.known.now) c.args.path.now c.loop-index.index c.loop-index.before c.in_ok-before-in-Ok-check.before c.args.things.now c.index-things-index.result
    _ c.loop-index.invariant c.loop-index-test.true c.index-things-index.is
    (rw (c.as_str.ensures.value, c.in_ok-prefix.ensures, c.named.ensures) at c.in-Ok.ensures)
    (rw (c.as_str-in-loop-index.ensures.value, c.in_ok-prefix.ensures) at c.in-Ok-check.ensures)
    (c.in_ok-before-in-Ok-check.ensures ∙ ap (λ (n : List ℕ). c.loop-index.before ++ n ∷ []) c.named-in-Ok-check.ensures)
