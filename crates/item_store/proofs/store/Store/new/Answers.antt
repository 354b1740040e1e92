use Rattle.std.proofs.Common.{◌≡◌, List, length, get_or, replicate, ap, ◌∙◌, arith}
use Rattle.std.proofs.lemmas.List.{length-replicate}
use Rattle.item_types.specs.declared.decl.Names.{Names}
use Rattle.item_store.specs.Kept.{Held, nothing}
use Rattle.item_store.proofs.Keys.{HaveKeys-none, held_none}
use Rattle.item_store.proofs.store.Store.new.Goals as goal

pub invariant_of-result : goal.invariant_of-result
invariant_of-result c =
    let e : c.into_vec.result.items ≡ replicate c.loop-item._item-index nothing = c.into_vec.ensures ∙ c.loop-item.invariant in
    let f : c.in_ok-try_copy.field-0 ≡ c.args.names.now = c.in_ok-try_copy.ensures in
    rw e (omega (arith, length-replicate c.loop-item._item-index nothing, ap length c.as_slice-item-items.ensures, ap (λ (n : Names). length n.items) f), HaveKeys-none c.in_ok-try_copy.field-0 c.loop-item._item-index)

pub returns-clause-empty : goal.returns-clause-empty
returns-clause-empty c = λ item.
    let e : c.into_vec.result.items ≡ replicate c.loop-item._item-index nothing = c.into_vec.ensures ∙ c.loop-item.invariant in
    ap (λ (hs : List Held). get_or hs item nothing) e ∙ held_none c.loop-item._item-index item
