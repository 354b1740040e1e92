use Rattle.std.proofs.Common.{Result, Err, subst, sym}
use Rattle.syntax_tree.specs.declared.tree.Body.{Body}
use Rattle.lang_grammar.specs.declared.fault.LangFault.{LangFault}
use Rattle.lang_grammar.specs.Text.{Told}
use Rattle.lang_names.specs.declared.wrong.NameFault.{NameFault}
use Rattle.lang_names.specs.Stmts.{Rights}
use Rattle.step_lang.specs.Judge.{body_made, by_check}
use Rattle.step_lang.proofs.Judged.{judges_ok, judges_err}
use Rattle.step_lang.proofs.judge.body_of.Goals as goal

pub returns-in-Ok : goal.returns-in-Ok
returns-in-Ok c = λ k h. judges_ok body_made c.args.stmts k (subst (λ (w : Result (Unit {0}) NameFault). Rights k w) c.in-Ok.is h)

pub returns-in-Err : goal.returns-in-Err
returns-in-Err c = λ k h.
    subst (λ (f : LangFault). Told {A = Body} (by_check body_made c.args.stmts k) (Err f)) (sym c.told.ensures)
    (judges_err body_made c.args.stmts c.in-Err.fault k (subst (λ (w : Result (Unit {0}) NameFault). Rights k w) c.in-Err.is h))
