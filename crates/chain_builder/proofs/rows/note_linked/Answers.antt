use Rattle.std.proofs.Common.{◌≡◌, ℕ, ◌<◌, List, length, get_or, arith, subst, sym, ◌∙◌, Contains}
use Rattle.std.proofs.lemmas.List.{get_or_default}
use Rattle.std.proofs.lemmas.List.Elements.{Contains-get_or}
use Rattle.chain_builder.specs.Rows.{row, AddsToRows}
use Rattle.chain_builder.proofs.RowLemmas.{row_read, links_more}
use Rattle.chain_builder.proofs.rows.note_linked.Goals as goal

pub bounds-links-key : goal.bounds-links-key
bounds-links-key c = c.requires.keys _ (Contains-get_or c.args.keys.now c.loop-key.key-index 0 (omega arith))

pub note_all-requires-clause-keys : goal.note_all-requires-clause-keys
note_all-requires-clause-keys c b h =
    let is : row c.args.links.now (get_or c.args.keys.now c.loop-key.key-index 0) ≡ c.as_slice.result.now = row_read c.args.links.now (get_or c.args.keys.now c.loop-key.key-index 0) c.index-links-key.result (c.requires.keys _ (Contains-get_or c.args.keys.now c.loop-key.key-index 0 (omega arith))) c.index-links-key.is ∙ sym c.as_slice.ensures in
    omega (arith, c.loop-key.invariant.adds.wide, c.requires.links (get_or c.args.keys.now c.loop-key.key-index 0) b (subst (λ (xs : List ℕ). Contains xs b) (sym is) h))

pub loop-key-preserved : goal.loop-key-preserved
loop-key-preserved c =
    let within : c.loop-key.key-index < length c.args.keys.now = omega arith in
    let is : row c.args.links.now (get_or c.args.keys.now c.loop-key.key-index 0) ≡ c.as_slice.result.now = row_read c.args.links.now (get_or c.args.keys.now c.loop-key.key-index 0) c.index-links-key.result (c.requires.keys _ (Contains-get_or c.args.keys.now c.loop-key.key-index 0 within)) c.index-links-key.is ∙ sym c.as_slice.ensures in
    record {
      adds = links_more c.args.table.now.items c.loop-key.table.items c.note_all.new.table.items c.args.links.now c.args.keys.now c.loop-key.key-index c.args.x (get_or c.args.keys.now c.loop-key.key-index 0) within (get_or_default _ _ _ _ within) c.loop-key.invariant.adds (subst (λ (xs : List ℕ). AddsToRows c.loop-key.table.items (Contains xs) c.args.x c.note_all.new.table.items) (sym is) c.in_ok-note_all.ensures.adds);
      rising = c.in_ok-note_all.ensures.rising;
    }
