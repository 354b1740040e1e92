use Rattle.std.proofs.Common.{ℕ, ◌+◌, List, sym, ap, ◌∙◌, arith}
use Rattle.lang_names.specs.Checked.{Checked, and_also}
use Rattle.lang_names.specs.Settings.{known_of}
use Rattle.lang_names.specs.Exprs.{left_of}
use Rattle.lang_names.proofs.Told.{bean_err, bean_ok, fields_turn, new_checks}
use Rattle.lang_names.proofs.exprs.+exprs.Goals as goal

pub check_bean-returns-in_err-check_new : goal.check_bean-returns-in_err-check_new
check_bean-returns-in_err-check_new t c =
    let e = bean_err (known_of c.args.setting.now) c.args.at c.args.bean c.args.fields.now c.args.scope.now c.in_err-check_new.field-0.0 (sym c.in_err-check_new.ensures) in
    grind (arith, c.from_residual.ensures)

pub check_bean-returns : goal.check_bean-returns
check_bean-returns t c =
    let e = bean_ok (known_of c.args.setting.now) c.args.at c.args.bean c.args.fields.now c.args.scope.now (sym c.in_ok-check_new.ensures) in
    c.check_fields.ensures ∙ ap (λ (d : List (List ℕ)). left_of (known_of c.args.setting.now) d c.args.fields.now c.args.scope.now 0) c.fields_of.ensures ∙ sym e

pub check_expr-returns-in-New : goal.check_expr-returns-in-New
check_expr-returns-in-New t c = new_checks (known_of c.args.setting.now) c.in-New.at c.in-New.bean c.in-New.fields c.as_slice.result.now c.args.x.now c.args.scope.now c.check_bean.result c.in-New.is c.as_slice.ensures c.check_bean.ensures

pub check_fields-returns-in_err-check_field : goal.check_fields-returns-in_err-check_field
check_fields-returns-in_err-check_field t c =
    let e = fields_turn (known_of c.args.setting.now) c.args.declared.now c.args.fields.now c.args.written.now c.args.scope.now c.loop-field.field-index c.loop-field.before c.field-item.result c.check_field.result c.loop-field.invariant c.loop-field-test.true c.field-item.is c.requires c.check_field.ensures in
    let e2 = e ∙ ap (λ (o : Checked). and_also o (left_of (known_of c.args.setting.now) c.args.declared.now c.args.fields.now c.args.scope.now (c.loop-field.field-index + 1))) c.in_err-check_field.was in
    grind (arith, c.from_residual.ensures, e2)

pub check_fields-loop-field-preserved : goal.check_fields-loop-field-preserved
check_fields-loop-field-preserved t c =
    let e = fields_turn (known_of c.args.setting.now) c.args.declared.now c.args.fields.now c.args.written.now c.args.scope.now c.loop-field.field-index c.loop-field.before c.field-item.result c.check_field.result c.loop-field.invariant c.loop-field-test.true c.field-item.is c.requires c.check_field.ensures in
    let e2 = e ∙ ap (λ (o : Checked). and_also o (left_of (known_of c.args.setting.now) c.args.declared.now c.args.fields.now c.args.scope.now (c.loop-field.field-index + 1))) c.in_ok-check_field.was in
    (e2, omega arith)
