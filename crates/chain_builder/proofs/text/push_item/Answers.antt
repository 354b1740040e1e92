use Rattle.std.proofs.Common.{◌++◌, ◌∙◌, ap, sym}
use Rattle.std.specs.Prelude.{string_bytes}
use Rattle.item_types.specs.declared.decl.ItemDecl.{ItemDecl}
use Rattle.chain_builder.proofs.ListLemmas.{list_at_lent}
use Rattle.chain_builder.proofs.text.push_item.Goals as goal

pub returns : goal.returns
returns c = c.in_ok-push_str.ensures.bytes ∙ ap (λ t. string_bytes c.args.out.now ++ t) (c.as_str.ensures ∙ sym (list_at_lent (λ (d : ItemDecl). d.name) c.args.items.now c.as_slice.result.now c.args.t c.index-as_slice-t.result c.as_slice.ensures c.requires c.index-as_slice-t.is))
