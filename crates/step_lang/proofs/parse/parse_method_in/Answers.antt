use Rattle.std.proofs.Common.{false, refl}
use Rattle.syntax_tree.specs.declared.tree.Method.{Method}
use Rattle.lang_names.specs.Names.{method_right}
use Rattle.step_lang.specs.Judge.{method_made}
use Rattle.step_lang.proofs.Judged.{sentence, only, fault, first}
use Rattle.step_lang.proofs.parse.parse_method_in.Goals as goal

pub returns-clause-sentence : goal.returns-clause-sentence
returns-clause-sentence c = sentence method_made (λ (m : Method). m.stmts) (λ s. refl) (λ m. refl) false c.args.names.now (method_right c.args.names.now c.args.recorder c.args.method) c.args.text.now c.read_method.result c.read_method.ensures

pub returns-clause-only : goal.returns-clause-only
returns-clause-only c = only method_made (λ (m : Method). m.stmts) (λ s. refl) (λ m. refl) false c.args.names.now (method_right c.args.names.now c.args.recorder c.args.method) c.args.text.now c.read_method.result c.read_method.ensures

pub returns-clause-fault : goal.returns-clause-fault
returns-clause-fault c = fault method_made (λ (m : Method). m.stmts) (λ s. refl) (λ m. refl) false c.args.names.now (method_right c.args.names.now c.args.recorder c.args.method) c.args.text.now c.read_method.result c.read_method.ensures

pub returns-clause-first : goal.returns-clause-first
returns-clause-first c = first method_made (λ (m : Method). m.stmts) (λ s. refl) (λ m. refl) false c.args.names.now (method_right c.args.names.now c.args.recorder c.args.method) c.args.text.now c.read_method.result c.read_method.ensures
