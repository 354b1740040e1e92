use Rattle.std.proofs.Common.{◌≡◌, ℕ, ◌<◌, length, get_or, arith, false, true}
use Rattle.std.proofs.lemmas.List.{get_or_default}
use Rattle.std.proofs.lemmas.List.Elements.{Contains-get_or}
use Rattle.chain_builder.proofs.ListLemmas.{all_more, all_all}
use Rattle.chain_builder.proofs.numbered.are_below.Goals as goal

pub returns-then-t-count : goal.returns-then-t-count
returns-then-t-count c = (
  λ e. absurd (let z : false ≡ true = e in cc),
  λ all. absurd (omega (arith, all _ (Contains-get_or c.args.list.now c.loop-t.t-index 0 (omega arith)))),
)

pub loop-t-preserved : goal.loop-t-preserved
loop-t-preserved c =
    let within : c.loop-t.t-index < length c.args.list.now = omega arith in
    all_more (λ (x : ℕ). x < c.args.count) c.args.list.now c.loop-t.t-index (get_or c.args.list.now c.loop-t.t-index 0) within (get_or_default _ _ _ _ within) (omega arith) c.loop-t.invariant

pub returns : goal.returns
returns c = (λ e. all_all (λ (x : ℕ). x < c.args.count) c.args.list.now c.loop-t.t-index (omega arith) c.loop-t.invariant, λ all. cc)
