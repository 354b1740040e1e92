use Rattle.std.proofs.Common.{◌≡◌, ◌<◌, length, get_or, arith, false, true}
use Rattle.std.proofs.lemmas.List.{get_or_default}
use Rattle.std.proofs.lemmas.List.Elements.{Contains-get_or}
use Rattle.item_types.specs.declared.step.Consume.{Consume}
use Rattle.chain_builder.proofs.ListLemmas.{all_more, all_all}
use Rattle.chain_builder.proofs.numbered.are_consumed_below.Goals as goal

default : Consume
default = record { item = 0; optional = false }

pub returns-then-c-count : goal.returns-then-c-count
unfolding default
returns-then-c-count c = (
  λ e. absurd (let z : false ≡ true = e in cc),
  λ all. absurd (omega (arith, all _ (Contains-get_or c.args.consumes.now c.loop-c.c-index default (omega arith)))),
)

pub loop-c-preserved : goal.loop-c-preserved
unfolding default
loop-c-preserved c =
    let within : c.loop-c.c-index < length c.args.consumes.now = omega arith in
    all_more (λ (x : Consume). x.item < c.args.count) c.args.consumes.now c.loop-c.c-index (get_or c.args.consumes.now c.loop-c.c-index default) within (get_or_default _ _ _ _ within) (omega arith) c.loop-c.invariant

pub returns : goal.returns
returns c = (λ e. all_all (λ (x : Consume). x.item < c.args.count) c.args.consumes.now c.loop-c.c-index (omega arith) c.loop-c.invariant, λ all. cc)
