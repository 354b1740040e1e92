use Rattle.std.proofs.Common.{false, refl}
use Rattle.syntax_tree.specs.declared.tree.Method.{Method}
use Rattle.lang_names.specs.Names.{method_right}
use Rattle.step_lang.specs.Judge.{method_made}
use Rattle.step_lang.proofs.Judged.{either, not_both, one_tree, one_fault}
use Rattle.step_lang.proofs.law.one_method.Goals as goal

pub returns-clause-one_or_other : goal.returns-clause-one_or_other
returns-clause-one_or_other c = λ names recorder m text. either method_made (λ (x : Method). x.stmts) (λ s. refl) (λ x. refl) false names (method_right names recorder m) text

pub returns-clause-never_both : goal.returns-clause-never_both
returns-clause-never_both c = λ names recorder m text. not_both method_made (λ (x : Method). x.stmts) (λ s. refl) (λ x. refl) false names (method_right names recorder m) text

pub returns-clause-one_tree : goal.returns-clause-one_tree
returns-clause-one_tree c = λ names recorder m text. one_tree method_made (λ (x : Method). x.stmts) (λ s. refl) (λ x. refl) false names (method_right names recorder m) text

pub returns-clause-one_fault : goal.returns-clause-one_fault
returns-clause-one_fault c = λ names recorder m text. one_fault method_made (λ (x : Method). x.stmts) (λ s. refl) (λ x. refl) false names (method_right names recorder m) text
