use Rattle.std.proofs.Common.{◌≡◌, ◌-◌, []}
use Rattle.class_grammar.specs.Layout.{many}
use Rattle.class_grammar.specs.Grammar as spec
use Rattle.class_reader.proofs.attributes.rows.Given as goal

abbrev pub invariant-loop-turn : goal.invariant-loop-turn
invariant-loop-turn l = ((many l.count [] (λ found. spec.row)).read l.fn.cursor ≡ (many (l.count - l._turn) l.found (λ found. spec.row)).read l.cursor)
