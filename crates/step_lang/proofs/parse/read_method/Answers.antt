use Rattle.std.proofs.Common.{false, List, Ok, Err, subst}
use Rattle.item_types.specs.declared.decl.Names.{Names}
use Rattle.syntax_tree.specs.declared.tree.Stmt.{Stmt}
use Rattle.lang_names.specs.Stmts.{Rights}
use Rattle.lang_names.specs.Names.{method_right}
use Rattle.step_lang.specs.Judge.{method_made}
use Rattle.step_lang.proofs.Judged.{told_text, read_ok, read_err}
use Rattle.step_lang.proofs.parse.read_method.Goals as goal

pub returns-in-Ok : goal.returns-in-Ok
returns-in-Ok c =
    read_ok method_made false c.args.names.now (method_right c.args.names.now c.args.recorder c.args.method) c.args.text.now c.in-Ok.stmts c.check_method-checked.result c.method_of.result
    (told_text false c.args.names.now c.args.text.now (Ok c.in-Ok.stmts) c.in-Ok.ensures.only c.in-Ok.ensures.first)
    (subst (λ (s : List Stmt). Rights (method_right c.args.names.now c.args.recorder c.args.method s) c.check_method-checked.result) c.as_slice.ensures
    (subst (λ (n : Names). Rights (method_right n c.args.recorder c.args.method c.as_slice.result.now) c.check_method-checked.result) c.names.ensures c.check_method-checked.ensures))
    c.method_of.ensures

pub returns-in-Err : goal.returns-in-Err
returns-in-Err c =
    read_err method_made false c.args.names.now (method_right c.args.names.now c.args.recorder c.args.method) c.args.text.now c.in-Err.fault
    (told_text false c.args.names.now c.args.text.now (Err c.in-Err.fault) c.in-Err.ensures.only c.in-Err.ensures.first)
