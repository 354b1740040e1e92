use Rattle.std.proofs.Common.{ℕ, ◌<◌, length, get_or, arith, subst}
use Rattle.std.proofs.lemmas.List.{get_or_default}
use Rattle.std.proofs.lemmas.List.Elements.{Contains-get_or}
use Rattle.chain_builder.specs.Rows.{IsRowUpTo}
use Rattle.chain_builder.proofs.RowLemmas.{adds_more, upto_more, row_read}
use Rattle.chain_builder.proofs.rows.note_all.Goals as goal

pub index_mut-requires : goal.index_mut-requires
index_mut-requires c =
    let given : get_or c.args.keys.now c.loop-key.key-index 0 < length c.args.table.now.items = omega (arith, c.requires.keys _ (Contains-get_or c.args.keys.now c.loop-key.key-index 0 (omega arith))) in
    omega (arith, c.loop-key.invariant.adds.wide)

pub note-requires : goal.note-requires
note-requires c =
    subst (IsRowUpTo c.args.x) (row_read c.loop-key.table.items (get_or c.args.keys.now c.loop-key.key-index 0) c.index_mut.result.now (let given : get_or c.args.keys.now c.loop-key.key-index 0 < length c.args.table.now.items = omega (arith, c.requires.keys _ (Contains-get_or c.args.keys.now c.loop-key.key-index 0 (omega arith))) in omega (arith, c.loop-key.invariant.adds.wide)) c.index_mut.ensures.value) (c.loop-key.invariant.rising (get_or c.args.keys.now c.loop-key.key-index 0))

pub loop-key-preserved : goal.loop-key-preserved
loop-key-preserved c =
    let within : c.loop-key.key-index < length c.args.keys.now = omega arith in
    let key : ℕ = get_or c.args.keys.now c.loop-key.key-index 0 in
    let given : get_or c.args.keys.now c.loop-key.key-index 0 < length c.args.table.now.items = omega (arith, c.requires.keys _ (Contains-get_or c.args.keys.now c.loop-key.key-index 0 within)) in
    record {
      adds = adds_more c.args.table.now.items c.loop-key.table.items c.args.keys.now c.loop-key.key-index c.args.x key c.index_mut.result.now c.note.new.row within (get_or_default _ _ _ _ within) given c.index_mut.ensures.value c.loop-key.invariant.adds c.in_ok-note.ensures.adds;
      rising = upto_more c.loop-key.table.items key c.args.x c.note.new.row (omega (arith, c.loop-key.invariant.adds.wide)) c.in_ok-note.ensures.rising c.loop-key.invariant.rising;
    }
