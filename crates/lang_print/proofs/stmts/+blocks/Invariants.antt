use Rattle.std.proofs.Common.{◌≡◌, drop}
use Rattle.lang_print.specs.Lines.{put_all}
use Rattle.lang_print.specs.Tokens.{body_tokens}
use Rattle.lang_print.proofs.stmts.+blocks.Given as goal

abbrev pub invariant-print_stmts-loop-stmt : goal.invariant-print_stmts-loop-stmt
invariant-print_stmts-loop-stmt l = put_all (body_tokens l.names l.stmts) l.fn.out ≡ put_all (body_tokens l.names (drop l.stmt-index l.stmts)) l.out
