use Rattle.std.proofs.Common.{◌≡◌, ◌≤◌, ◌+◌, ◌-◌, length}
use Rattle.lang_lexer.specs.Tokens as spec
use Rattle.lang_lexer.proofs.lexer.tokens_of.Given as goal

abbrev pub invariant-loop-turn : goal.invariant-loop-turn
invariant-loop-turn l = record {
  same : spec.tokens l.chars ≡ spec.tokens_from (l._turn-end - l._turn) l.found l.rest;
  few : length l.found + length l.rest ≤ length l.chars;
}
