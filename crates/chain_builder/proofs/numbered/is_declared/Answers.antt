use Rattle.std.proofs.Common.{◌≡◌, ◌<◌, List, Contains, subst, sym, true, false, ◌∙◌}
use Rattle.item_types.specs.declared.step.Consume.{Consume}
use Rattle.item_types.specs.declared.step.Produce.{Produce}
use Rattle.chain_builder.proofs.numbered.is_declared.Goals as goal

pub returns-then-are_consumed_below : goal.returns-then-are_consumed_below
returns-then-are_consumed_below c = (
  λ e. record {
    consumed = subst (λ (xs : List Consume). (x : Consume) → Contains xs x → x.item < c.args.count) c.as_slice.ensures (c.are_consumed_below.ensures.0 c.if-are_consumed_below.true);
    produced = subst (λ (xs : List Produce). (x : Produce) → Contains xs x → x.item < c.args.count) c.as_slice-then-are_consumed_below.ensures (c.are_produced_below.ensures.0 e);
  },
  λ d. c.are_produced_below.ensures.1 (subst (λ (xs : List Produce). (x : Produce) → Contains xs x → x.item < c.args.count) (sym c.as_slice-then-are_consumed_below.ensures) d.produced),
)

pub returns-else-are_consumed_below : goal.returns-else-are_consumed_below
returns-else-are_consumed_below c = (
  λ e. absurd (let z : true ≡ false = sym e ∙ c.if-are_consumed_below.false in cc),
  λ d. c.are_consumed_below.ensures.1 (subst (λ (xs : List Consume). (x : Consume) → Contains xs x → x.item < c.args.count) (sym c.as_slice.ensures) d.consumed),
)
