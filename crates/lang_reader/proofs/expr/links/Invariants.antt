use Rattle.std.proofs.Common.{◌≡◌, ◌-◌}
use Rattle.lang_lexer.specs.declared.token.Mark.TheVariants as mark
use Rattle.lang_grammar.specs.Place.{is}
use Rattle.lang_grammar.specs.Rules as spec
use Rattle.lang_reader.proofs.expr.links.Given as goal

abbrev pub invariant-loop-turn : goal.invariant-loop-turn
invariant-loop-turn l = spec.links l.lang.step l.lang.names.now l.left l.fn.tokens ≡ spec.many_from (is mark.Dot) l.left (spec.link l.lang.step l.lang.names.now l.left) (l.turns - l._turn) l.found l.tokens
