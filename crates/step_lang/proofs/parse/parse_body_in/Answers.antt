use Rattle.std.proofs.Common.{true, refl}
use Rattle.syntax_tree.specs.declared.tree.Body.{Body}
use Rattle.lang_names.specs.Names.{body_right}
use Rattle.step_lang.specs.Judge.{body_made}
use Rattle.step_lang.proofs.Judged.{sentence, only, fault, first}
use Rattle.step_lang.proofs.parse.parse_body_in.Goals as goal

pub returns-clause-sentence : goal.returns-clause-sentence
returns-clause-sentence c = sentence body_made (λ (b : Body). b.stmts) (λ s. refl) (λ b. refl) true c.args.names.now (body_right c.args.names.now c.args.decl.now) c.args.text.now c.read_body.result c.read_body.ensures

pub returns-clause-only : goal.returns-clause-only
returns-clause-only c = only body_made (λ (b : Body). b.stmts) (λ s. refl) (λ b. refl) true c.args.names.now (body_right c.args.names.now c.args.decl.now) c.args.text.now c.read_body.result c.read_body.ensures

pub returns-clause-fault : goal.returns-clause-fault
returns-clause-fault c = fault body_made (λ (b : Body). b.stmts) (λ s. refl) (λ b. refl) true c.args.names.now (body_right c.args.names.now c.args.decl.now) c.args.text.now c.read_body.result c.read_body.ensures

pub returns-clause-first : goal.returns-clause-first
returns-clause-first c = first body_made (λ (b : Body). b.stmts) (λ s. refl) (λ b. refl) true c.args.names.now (body_right c.args.names.now c.args.decl.now) c.args.text.now c.read_body.result c.read_body.ensures
