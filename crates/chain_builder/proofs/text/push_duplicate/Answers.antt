use Rattle.std.proofs.Common.{◌++◌}
use Rattle.std.specs.Prelude.{codes, string_bytes}
use Rattle.chain_builder.specs.FaultText.{item_name, step_name}
use Rattle.chain_builder.proofs.TextLemmas.{after}
use Rattle.chain_builder.proofs.text.push_duplicate.Goals as goal

pub returns : goal.returns
returns c =
    let out = string_bytes c.args.out.now in
    let item = item_name c.args.items.now c.args.t in
    let first = step_name c.args.steps.now c.args.a in
    let second = step_name c.args.steps.now c.args.b in
    after out (string_bytes c.push_str-3.new.self) (string_bytes c.push_step-2.new.out) (codes "item " ++ item ++ codes " has the producers " ++ first ++ codes " and ") second
    (after out (string_bytes c.push_step.new.out) (string_bytes c.push_str-3.new.self) (codes "item " ++ item ++ codes " has the producers " ++ first) (codes " and ")
    (after out (string_bytes c.push_str-2.new.self) (string_bytes c.push_step.new.out) (codes "item " ++ item ++ codes " has the producers ") first
    (after out (string_bytes c.push_item.new.out) (string_bytes c.push_str-2.new.self) (codes "item " ++ item) (codes " has the producers ")
    (after out (string_bytes c.push_str.new.self) (string_bytes c.push_item.new.out) (codes "item ") item c.in_ok-push_str.ensures.bytes c.in_ok-push_item.ensures)
    c.in_ok-push_str-2.ensures.bytes)
    c.in_ok-push_step.ensures)
    c.in_ok-push_str-3.ensures.bytes)
    c.in_ok-push_step-2.ensures
