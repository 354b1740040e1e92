use Rattle.std.proofs.Common.{◌∙◌, ℕ, List, ap}
use Rattle.lang_lexer.specs.declared.token.Token.TheVariants.{Name}
use Rattle.lang_print.specs.Lines.{put}
use Rattle.lang_print.proofs.Turns.{parts_turn, fields_turn, equal_puts, less_puts}
use Rattle.lang_print.proofs.exprs.+exprs.Goals as goal

pub print_parts-loop-part-preserved : goal.print_parts-loop-part-preserved
print_parts-loop-part-preserved t c =
    c.loop-part.invariant
    ∙ parts_turn c.args.names.now c.args.mark c.args.parts.now c.loop-part.part-index c.loop-part.later c.part-item.result c.loop-part.out c.sign_if.new.self c.print_expr.new.out
    c.loop-part-test.true c.part-item.is c.in_ok-sign_if.ensures c.in_ok-print_expr.ensures

pub print_fields-loop-field-preserved : goal.print_fields-loop-field-preserved
print_fields-loop-field-preserved t c =
    c.loop-field.invariant
    ∙ fields_turn c.args.names.now c.args.fields.now c.loop-field.field-index c.loop-field.later c.field-item.result c.loop-field.out c.sign_if.new.self c.name.new.self c.sign.new.self c.print_expr.new.out
    c.loop-field-test.true c.field-item.is c.in_ok-sign_if.ensures (c.in_ok-name.ensures ∙ ap (λ (w : List ℕ). put (Name w) c.sign_if.new.self) c.as_str.ensures) c.in_ok-sign.ensures c.in_ok-print_expr.ensures

pub print_expr-returns-in_ok-print_expr-in-Equal-2 : goal.print_expr-returns-in_ok-print_expr-in-Equal-2
print_expr-returns-in_ok-print_expr-in-Equal-2 t c =
    equal_puts c.args.names.now c.args.x.now c.in-Equal.left c.in-Equal.right c.get-in-Equal.result.now c.get-in-Equal-2.result.now c.in-Equal.sign
    c.args.out.now c.print_expr-in-Equal.new.out c.sign-in-Equal.new.self c.print_expr-in-Equal-2.new.out
    c.in-Equal.is c.get-in-Equal.ensures c.get-in-Equal-2.ensures c.in_ok-print_expr-in-Equal.ensures c.in_ok-sign-in-Equal.ensures c.in_ok-print_expr-in-Equal-2.ensures

pub print_expr-returns-in_ok-print_expr-in-Less-2 : goal.print_expr-returns-in_ok-print_expr-in-Less-2
print_expr-returns-in_ok-print_expr-in-Less-2 t c =
    less_puts c.args.names.now c.args.x.now c.in-Less.left c.in-Less.right c.get-in-Less.result.now c.get-in-Less-2.result.now c.in-Less.sign
    c.args.out.now c.print_expr-in-Less.new.out c.sign-in-Less.new.self c.print_expr-in-Less-2.new.out
    c.in-Less.is c.get-in-Less.ensures c.get-in-Less-2.ensures c.in_ok-print_expr-in-Less.ensures c.in_ok-sign-in-Less.ensures c.in_ok-print_expr-in-Less-2.ensures
