use Rattle.std.proofs.Common.{true, refl, subst}
use Rattle.item_types.specs.declared.decl.Names.{Names}
use Rattle.syntax_tree.specs.declared.tree.Body.{Body}
use Rattle.lang_grammar.specs.Text.{Told}
use Rattle.lang_names.specs.Names.{body_right}
use Rattle.step_lang.specs.Judge.{answer, body_made}
use Rattle.step_lang.proofs.Judged.{sentence, only, fault, first}
use Rattle.step_lang.proofs.parse.parse_body.Goals as goal

pub returns-clause-sentence : goal.returns-clause-sentence
returns-clause-sentence c =
    let told = subst (λ (n : Names). Told (answer body_made true n (body_right n c.args.decl.now) c.args.text.now) c.parse_body_in.result) c.new-directory.ensures c.parse_body_in.ensures.told in
    sentence body_made (λ (b : Body). b.stmts) (λ s. refl) (λ b. refl) true c.args.names.now (body_right c.args.names.now c.args.decl.now) c.args.text.now c.parse_body_in.result told

pub returns-clause-only : goal.returns-clause-only
returns-clause-only c =
    let told = subst (λ (n : Names). Told (answer body_made true n (body_right n c.args.decl.now) c.args.text.now) c.parse_body_in.result) c.new-directory.ensures c.parse_body_in.ensures.told in
    only body_made (λ (b : Body). b.stmts) (λ s. refl) (λ b. refl) true c.args.names.now (body_right c.args.names.now c.args.decl.now) c.args.text.now c.parse_body_in.result told

pub returns-clause-fault : goal.returns-clause-fault
returns-clause-fault c =
    let told = subst (λ (n : Names). Told (answer body_made true n (body_right n c.args.decl.now) c.args.text.now) c.parse_body_in.result) c.new-directory.ensures c.parse_body_in.ensures.told in
    fault body_made (λ (b : Body). b.stmts) (λ s. refl) (λ b. refl) true c.args.names.now (body_right c.args.names.now c.args.decl.now) c.args.text.now c.parse_body_in.result told

pub returns-clause-first : goal.returns-clause-first
returns-clause-first c =
    let told = subst (λ (n : Names). Told (answer body_made true n (body_right n c.args.decl.now) c.args.text.now) c.parse_body_in.result) c.new-directory.ensures c.parse_body_in.ensures.told in
    first body_made (λ (b : Body). b.stmts) (λ s. refl) (λ b. refl) true c.args.names.now (body_right c.args.names.now c.args.decl.now) c.args.text.now c.parse_body_in.result told
