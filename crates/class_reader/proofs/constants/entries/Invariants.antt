use Rattle.std.proofs.Common.{◌≡◌, ◌+◌, ◌-◌, ◌≤◌, length, []}
use Rattle.class_grammar.specs.Layout.{many}
use Rattle.class_grammar.specs.Grammar as spec
use Rattle.class_reader.proofs.constants.entries.Given as goal

abbrev pub invariant-loop-turn : goal.invariant-loop-turn
invariant-loop-turn l = ((many l.count [] (spec.next_entry l.count)).read l.fn.cursor ≡ (many (l.count - l._turn) l.found.items (spec.next_entry l.count)).read l.cursor) × (length l.found.items + 1 ≤ l.count)
