use Rattle.std.proofs.Common.{◌≡◌, ◌∙◌, ap, rules}
use Rattle.std.specs.Prelude.{IsSome}
use Rattle.item_types.specs.Bounds.{IsBounded}
use Rattle.item_types.specs.Named.{key as key_of}
use Rattle.value_order.specs.Found.{number_of}
use Rattle.value_order.specs.Sorted.{sorted_by}
use Rattle.value_order.proofs.Ranks.{sorted_from_sort, ranks}
use Rattle.value_order.proofs.Elements.{All-sorted}
use Rattle.value_order.proofs.order.in_order.Goals as goal

pub returns : goal.returns
returns c =
    let key = number_of c.args.names.now c.args.field.now in
    let e = sorted_from_sort key _ _ c.in_ok-sort_by_key.ensures.sorted c.in_ok-sort_by_key.ensures.stable (λ a r q k. search rules) in
    let all : c.from_vec.result ≡ sorted_by key c.args.values.now =
    c.from_vec.ensures ∙ (e ∙ ap (sorted_by key) (c.into_vec-copies.ensures ∙ c.in_ok-copy_values.ensures)) in
    record { sorted = all; ranks = rw all (ranks key c.args.values.now); bounded = λ h. rw all (All-sorted IsBounded _ c.args.values.now h); keyed = λ h. rw all (All-sorted (λ v. IsSome (key_of c.args.names.now c.args.field.now v)) _ c.args.values.now h) }
