use Rattle.std.proofs.Common.{true, refl}
use Rattle.syntax_tree.specs.declared.tree.Body.{Body}
use Rattle.lang_names.specs.Names.{body_right}
use Rattle.step_lang.specs.Judge.{body_made}
use Rattle.step_lang.proofs.Judged.{either, not_both, one_tree, one_fault}
use Rattle.step_lang.proofs.law.one_body.Goals as goal

pub returns-clause-one_or_other : goal.returns-clause-one_or_other
returns-clause-one_or_other c = λ names decl text. either body_made (λ (x : Body). x.stmts) (λ s. refl) (λ x. refl) true names (body_right names decl) text

pub returns-clause-never_both : goal.returns-clause-never_both
returns-clause-never_both c = λ names decl text. not_both body_made (λ (x : Body). x.stmts) (λ s. refl) (λ x. refl) true names (body_right names decl) text

pub returns-clause-one_tree : goal.returns-clause-one_tree
returns-clause-one_tree c = λ names decl text. one_tree body_made (λ (x : Body). x.stmts) (λ s. refl) (λ x. refl) true names (body_right names decl) text

pub returns-clause-one_fault : goal.returns-clause-one_fault
returns-clause-one_fault c = λ names decl text. one_fault body_made (λ (x : Body). x.stmts) (λ s. refl) (λ x. refl) true names (body_right names decl) text
