use Rattle.std.proofs.Common.{◌≡◌, ◌-◌, []}
use Rattle.std.specs.List.{list_any}
use Rattle.class_grammar.specs.Layout.{many}
use Rattle.class_grammar.specs.Grammar as spec
use Rattle.class_reader.proofs.attributes.attributes_of.Given as goal

abbrev pub invariant-loop-turn : goal.invariant-loop-turn
invariant-loop-turn l = ((many l.count [] (λ found. spec.attribute_of l.es (list_any spec.is_coded found))).read l.fn.cursor ≡ (many (l.count - l._turn) l.found (λ found. spec.attribute_of l.es (list_any spec.is_coded found))).read l.cursor) × (l.seen ≡ list_any spec.is_coded l.found)
