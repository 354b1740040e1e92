use Rattle.std.proofs.Common.{◌++◌}
use Rattle.std.specs.Prelude.{codes, string_bytes}
use Rattle.chain_builder.specs.FaultText.{item_name, step_name}
use Rattle.chain_builder.proofs.TextLemmas.{after}
use Rattle.chain_builder.proofs.text.push_missing_consumed.Goals as goal

pub returns : goal.returns
returns c =
    let out = string_bytes c.args.out.now in
    let item = item_name c.args.items.now c.args.t in
    let step = step_name c.args.steps.now c.args.s in
    after out (string_bytes c.push_step.new.out) (string_bytes c.push_str-3.new.self) (codes "item " ++ item ++ codes ", wanted by " ++ step) (codes ", has no producer")
    (after out (string_bytes c.push_str-2.new.self) (string_bytes c.push_step.new.out) (codes "item " ++ item ++ codes ", wanted by ") step
    (after out (string_bytes c.push_item.new.out) (string_bytes c.push_str-2.new.self) (codes "item " ++ item) (codes ", wanted by ")
    (after out (string_bytes c.push_str.new.self) (string_bytes c.push_item.new.out) (codes "item ") item c.in_ok-push_str.ensures.bytes c.in_ok-push_item.ensures)
    c.in_ok-push_str-2.ensures.bytes)
    c.in_ok-push_step.ensures)
    c.in_ok-push_str-3.ensures.bytes
