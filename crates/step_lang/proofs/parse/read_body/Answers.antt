use Rattle.std.proofs.Common.{true, List, Ok, Err, subst}
use Rattle.item_types.specs.declared.decl.Names.{Names}
use Rattle.syntax_tree.specs.declared.tree.Stmt.{Stmt}
use Rattle.lang_names.specs.Stmts.{Rights}
use Rattle.lang_names.specs.Names.{body_right}
use Rattle.step_lang.specs.Judge.{body_made}
use Rattle.step_lang.proofs.Judged.{told_text, read_ok, read_err}
use Rattle.step_lang.proofs.parse.read_body.Goals as goal

pub returns-in-Ok : goal.returns-in-Ok
returns-in-Ok c =
    read_ok body_made true c.args.names.now (body_right c.args.names.now c.args.decl.now) c.args.text.now c.in-Ok.stmts c.check_body-checked.result c.body_of.result
    (told_text true c.args.names.now c.args.text.now (Ok c.in-Ok.stmts) c.in-Ok.ensures.only c.in-Ok.ensures.first)
    (subst (λ (s : List Stmt). Rights (body_right c.args.names.now c.args.decl.now s) c.check_body-checked.result) c.as_slice.ensures
    (subst (λ (n : Names). Rights (body_right n c.args.decl.now c.as_slice.result.now) c.check_body-checked.result) c.names.ensures c.check_body-checked.ensures))
    c.body_of.ensures

pub returns-in-Err : goal.returns-in-Err
returns-in-Err c =
    read_err body_made true c.args.names.now (body_right c.args.names.now c.args.decl.now) c.args.text.now c.in-Err.fault
    (told_text true c.args.names.now c.args.text.now (Err c.in-Err.fault) c.in-Err.ensures.only c.in-Err.ensures.first)
