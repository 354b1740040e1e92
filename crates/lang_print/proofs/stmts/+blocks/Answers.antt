use Rattle.std.proofs.Common.{◌∙◌, List, Option, map, ap, sym}
use Rattle.syntax_tree.specs.declared.tree.Stmt.{Stmt}
use Rattle.lang_print.specs.Lines.{put_all}
use Rattle.lang_print.specs.Tokens.{else_tokens, other_of, stmt_tokens}
use Rattle.lang_print.proofs.Turns.{stmts_turn, if_puts}
use Rattle.lang_print.proofs.stmts.+blocks.Goals as goal

pub print_stmts-loop-stmt-preserved : goal.print_stmts-loop-stmt-preserved
print_stmts-loop-stmt-preserved t c =
    c.loop-stmt.invariant
    ∙ stmts_turn c.args.names.now c.args.stmts.now c.loop-stmt.stmt-index c.stmt-item.result c.loop-stmt.out c.print_stmt.new.out c.loop-stmt-test.true c.stmt-item.is c.in_ok-print_stmt.ensures

pub print_stmt-returns-in_ok-print_else-in-Some : goal.print_stmt-returns-in_ok-print_else-in-Some
print_stmt-returns-in_ok-print_else-in-Some t c =
    if_puts c.args.names.now c.args.stmt.now c.in-If.at c.in-If.cond c.in-If.block c.as_slice-in-If.result.now c.in-If.other c.args.out.now c.print_if.new.out c.print_else.new.out
    c.in-If.is c.as_slice-in-If.ensures c.in_ok-print_if-in-If.ensures
    (c.in_ok-print_else-in-Some.ensures
    ∙ ap (λ (w : List Stmt). put_all (else_tokens (map (stmt_tokens c.args.names.now) w)) c.print_if.new.out) c.as_slice-in-Some.ensures
    ∙ ap (λ (o : Option (List Stmt)). put_all (other_of c.args.names.now o) c.print_if.new.out) (sym c.in-Some.is))
