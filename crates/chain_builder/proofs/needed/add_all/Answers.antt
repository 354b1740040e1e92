use Rattle.std.proofs.Common.{◌<◌, length, get_or, arith}
use Rattle.std.proofs.lemmas.List.{get_or_default}
use Rattle.std.proofs.lemmas.List.Elements.{Contains-get_or}
use Rattle.chain_builder.proofs.NeededLemmas.{adds_all_more}
use Rattle.chain_builder.proofs.needed.add_all.Goals as goal

pub add-requires : goal.add-requires
add-requires c = omega (arith, c.loop-x.invariant.grows.limit, c.requires _ (Contains-get_or c.args.list.now c.loop-x.x-index 0 (omega arith)))

pub loop-x-preserved : goal.loop-x-preserved
loop-x-preserved c =
    let within : c.loop-x.x-index < length c.args.list.now = omega arith in
    adds_all_more c.args.marks.now c.loop-x.marks c.add.new.self c.args.list.now c.loop-x.x-index (get_or c.args.list.now c.loop-x.x-index 0) within (get_or_default _ _ _ _ within) c.add.ensures.limit c.in_ok-add.ensures.there c.in_ok-add.ensures.items c.loop-x.invariant
