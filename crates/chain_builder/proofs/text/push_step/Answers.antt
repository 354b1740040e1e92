use Rattle.std.proofs.Common.{◌≡◌, ◌++◌, ◌∙◌, ap, sym}
use Rattle.std.specs.Prelude.{string_bytes, codes}
use Rattle.item_types.specs.declared.step.StepDecl.{StepDecl}
use Rattle.chain_builder.proofs.ListLemmas.{list_at_lent}
use Rattle.chain_builder.proofs.TextLemmas.{after}
use Rattle.chain_builder.proofs.text.push_step.Goals as goal

pub returns : goal.returns
returns c =
    let ext = c.as_str.result.now in
    let name = c.as_str-2.result.now in
    let two : string_bytes c.push_str-2.new.self ≡ string_bytes c.args.out.now ++ (ext ++ codes ".") = after (string_bytes c.args.out.now) (string_bytes c.push_str.new.self) (string_bytes c.push_str-2.new.self) ext (codes ".") c.in_ok-push_str.ensures.bytes c.in_ok-push_str-2.ensures.bytes in
    let three : string_bytes c.push_str-3.new.self ≡ string_bytes c.args.out.now ++ (ext ++ codes "." ++ name) = after (string_bytes c.args.out.now) (string_bytes c.push_str-2.new.self) (string_bytes c.push_str-3.new.self) (ext ++ codes ".") name two c.in_ok-push_str-3.ensures.bytes in
    three ∙ ap (λ t. string_bytes c.args.out.now ++ t) (ap (λ t. t ++ codes "." ++ name) c.as_str.ensures ∙ (ap (λ t. c.index-as_slice-s.result.ext ++ codes "." ++ t) c.as_str-2.ensures ∙ sym (list_at_lent (λ (d : StepDecl). d.ext ++ codes "." ++ d.name) c.args.steps.now c.as_slice.result.now c.args.s c.index-as_slice-s.result c.as_slice.ensures c.requires c.index-as_slice-s.is)))
