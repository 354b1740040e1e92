use Rattle.std.proofs.Common.{◌<◌, length}
use Rattle.chain_builder.proofs.CycleLemmas.{first_left_is, one_is_left}
use Rattle.chain_builder.proofs.cycle.next_in_core.Goals as goal

pub bounds-row-first_left : goal.bounds-row-first_left
bounds-row-first_left c = one_is_left c.args.row.now c.args.removed.now.items c.first_left.result c.first_left.ensures.within c.first_left.ensures.passed c.requires.some

pub returns : goal.returns
returns c =
    let within : c.first_left.result < length c.args.row.now = one_is_left c.args.row.now c.args.removed.now.items c.first_left.result c.first_left.ensures.within c.first_left.ensures.passed c.requires.some in
    first_left_is c.args.row.now c.args.removed.now.items c.first_left.result c.requires.ascending within c.first_left.ensures.passed (c.first_left.ensures.left within)
