use Rattle.std.proofs.Common.{◌≡◌, ◌<◌, length, get_or, arith, false, true}
use Rattle.std.proofs.lemmas.List.{get_or_default}
use Rattle.std.proofs.lemmas.List.Elements.{Contains-get_or}
use Rattle.item_types.specs.declared.step.Produce.{Produce}
use Rattle.chain_builder.proofs.ListLemmas.{all_more, all_all}
use Rattle.chain_builder.proofs.numbered.are_produced_below.Goals as goal

default : Produce
default = record { item = 0; weak = false; overridable = false }

pub returns-then-p-count : goal.returns-then-p-count
unfolding default
returns-then-p-count c = (
  λ e. absurd (let z : false ≡ true = e in cc),
  λ all. absurd (omega (arith, all _ (Contains-get_or c.args.produces.now c.loop-p.p-index default (omega arith)))),
)

pub loop-p-preserved : goal.loop-p-preserved
unfolding default
loop-p-preserved c =
    let within : c.loop-p.p-index < length c.args.produces.now = omega arith in
    all_more (λ (x : Produce). x.item < c.args.count) c.args.produces.now c.loop-p.p-index (get_or c.args.produces.now c.loop-p.p-index default) within (get_or_default _ _ _ _ within) (omega arith) c.loop-p.invariant

pub returns : goal.returns
returns c = (λ e. all_all (λ (x : Produce). x.item < c.args.count) c.args.produces.now c.loop-p.p-index (omega arith) c.loop-p.invariant, λ all. cc)
