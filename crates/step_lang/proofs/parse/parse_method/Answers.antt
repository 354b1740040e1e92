use Rattle.std.proofs.Common.{false, refl, subst}
use Rattle.item_types.specs.declared.decl.Names.{Names}
use Rattle.syntax_tree.specs.declared.tree.Method.{Method}
use Rattle.lang_grammar.specs.Text.{Told}
use Rattle.lang_names.specs.Names.{method_right}
use Rattle.step_lang.specs.Judge.{answer, method_made}
use Rattle.step_lang.proofs.Judged.{sentence, only, fault, first}
use Rattle.step_lang.proofs.parse.parse_method.Goals as goal

pub returns-clause-sentence : goal.returns-clause-sentence
returns-clause-sentence c =
    let told = subst (λ (n : Names). Told (answer method_made false n (method_right n c.args.recorder c.args.method) c.args.text.now) c.parse_method_in.result) c.new-directory.ensures c.parse_method_in.ensures.told in
    sentence method_made (λ (m : Method). m.stmts) (λ s. refl) (λ m. refl) false c.args.names.now (method_right c.args.names.now c.args.recorder c.args.method) c.args.text.now c.parse_method_in.result told

pub returns-clause-only : goal.returns-clause-only
returns-clause-only c =
    let told = subst (λ (n : Names). Told (answer method_made false n (method_right n c.args.recorder c.args.method) c.args.text.now) c.parse_method_in.result) c.new-directory.ensures c.parse_method_in.ensures.told in
    only method_made (λ (m : Method). m.stmts) (λ s. refl) (λ m. refl) false c.args.names.now (method_right c.args.names.now c.args.recorder c.args.method) c.args.text.now c.parse_method_in.result told

pub returns-clause-fault : goal.returns-clause-fault
returns-clause-fault c =
    let told = subst (λ (n : Names). Told (answer method_made false n (method_right n c.args.recorder c.args.method) c.args.text.now) c.parse_method_in.result) c.new-directory.ensures c.parse_method_in.ensures.told in
    fault method_made (λ (m : Method). m.stmts) (λ s. refl) (λ m. refl) false c.args.names.now (method_right c.args.names.now c.args.recorder c.args.method) c.args.text.now c.parse_method_in.result told

pub returns-clause-first : goal.returns-clause-first
returns-clause-first c =
    let told = subst (λ (n : Names). Told (answer method_made false n (method_right n c.args.recorder c.args.method) c.args.text.now) c.parse_method_in.result) c.new-directory.ensures c.parse_method_in.ensures.told in
    first method_made (λ (m : Method). m.stmts) (λ s. refl) (λ m. refl) false c.args.names.now (method_right c.args.names.now c.args.recorder c.args.method) c.args.text.now c.parse_method_in.result told
