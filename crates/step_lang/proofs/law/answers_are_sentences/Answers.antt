use Rattle.std.proofs.Common.{true, false, refl}
use Rattle.syntax_tree.specs.declared.tree.Body.{Body}
use Rattle.syntax_tree.specs.declared.tree.Method.{Method}
use Rattle.lang_names.specs.Names.{body_right, method_right}
use Rattle.step_lang.specs.Judge.{body_made, method_made}
use Rattle.step_lang.proofs.Judged.{ok_answer, answer_ok, err_answer, answer_err}
use Rattle.step_lang.proofs.law.answers_are_sentences.Goals as goal

pub returns-clause-bodies : goal.returns-clause-bodies
returns-clause-bodies c = λ names decl text a. (ok_answer body_made (λ (x : Body). x.stmts) (λ s. refl) (λ x. refl) true names (body_right names decl) text a, answer_ok body_made (λ (x : Body). x.stmts) (λ s. refl) (λ x. refl) true names (body_right names decl) text a)

pub returns-clause-body_faults : goal.returns-clause-body_faults
returns-clause-body_faults c = λ names decl text a. (err_answer body_made (λ (x : Body). x.stmts) (λ s. refl) (λ x. refl) true names (body_right names decl) text a, answer_err body_made (λ (x : Body). x.stmts) (λ s. refl) (λ x. refl) true names (body_right names decl) text a)

pub returns-clause-methods : goal.returns-clause-methods
returns-clause-methods c = λ names recorder m text a. (ok_answer method_made (λ (x : Method). x.stmts) (λ s. refl) (λ x. refl) false names (method_right names recorder m) text a, answer_ok method_made (λ (x : Method). x.stmts) (λ s. refl) (λ x. refl) false names (method_right names recorder m) text a)

pub returns-clause-method_faults : goal.returns-clause-method_faults
returns-clause-method_faults c = λ names recorder m text a. (err_answer method_made (λ (x : Method). x.stmts) (λ s. refl) (λ x. refl) false names (method_right names recorder m) text a, answer_err method_made (λ (x : Method). x.stmts) (λ s. refl) (λ x. refl) false names (method_right names recorder m) text a)
