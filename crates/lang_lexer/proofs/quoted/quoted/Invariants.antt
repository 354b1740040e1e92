use Rattle.std.proofs.Common.{◌≡◌, ◌≤◌, [], length, string_bytes}
use Rattle.lang_lexer.specs.declared.quoted.Quoting.TheVariants.{Plain}
use Rattle.lang_lexer.specs.Quotes as spec
use Rattle.lang_lexer.proofs.quoted.quoted.Given as goal

abbrev pub invariant-loop-rest : goal.invariant-loop-rest
invariant-loop-rest l = record { same : spec.quoted l.quoting (string_bytes l.found) l.rest ≡ spec.quoted Plain [] l.chars; shorter : length l.rest ≤ length l.chars }

abbrev pub decreases-loop-rest : goal.decreases-loop-rest
decreases-loop-rest l = length l.rest
