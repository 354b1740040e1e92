use Rattle.std.proofs.Common.{rules, arith, ap, sym, ◌∙◌, subst}
use Rattle.dep_board.proofs.Keeps.{joins, looks}
use Rattle.dep_board.proofs.Listed.{times-append}
use Rattle.dep_board.proofs.Passing.{both_settled}
use Rattle.dep_board.specs.Counts.{times}
use Rattle.dep_board.specs.Steps.{IsSound}
use Rattle.dep_board.proofs.inner.InnerBoard.join.Goals as goal

pub join_seat-requires : goal.join_seat-requires
join_seat-requires c = (search rules, search rules, c.args.from.plain, search rules, joins _ _ _ _ _ _)

pub load-requires : goal.load-requires
load-requires c = (search rules, search rules, looks _ _ _ _ _ _ (ap (λ m. m.0.steps) c.join_seat.ensures.2 ∙ search rules) (ap (λ m. m.0.edges) c.join_seat.ensures.2 ∙ search rules))

pub invariant_of-into : goal.invariant_of-into
invariant_of-into c =
    let is = ap (λ m. m.0) (c.load.ensures.2.0 ∙ c.join_seat.ensures.2) in
    let sound = subst IsSound (ap (λ m. m.0) (sym c.load.ensures.2.0)) c.load.ensures.2.1 in
    record {
      plain = ap (λ m. m.1) (c.load.ensures.2.0 ∙ c.join_seat.ensures.2) ∙ c.args.into.now.plain;
      counted = omega (arith, ap (λ v. v.parts) is, c.args.into.now.counted, c.args.from.counted);
      some_part = omega (arith, c.args.into.now.some_part);
      settled = both_settled c.args.into.now.seat.me.0 c.args.from.seat.me.0 c.load.new.seat.me.0 is (c.requires.into.2 ∙ sym c.requires.from.2) sound c.args.into.now.settled c.args.from.settled;
      sound = sound;
    }

pub returns-clause-ended_apart : goal.returns-clause-ended_apart
returns-clause-ended_apart c =
    λ p. omega (arith, c.load.ensures.2.1.once_ended p, ap (λ m. times p m.0.ended) c.join_seat.ensures.2, times-append p c.args.into.now.seat.me.0.ended c.args.from.seat.me.0.ended)

pub returns-clause-told_apart : goal.returns-clause-told_apart
returns-clause-told_apart c =
    λ s. omega (arith, c.load.ensures.2.1.once_told s, ap (λ m. times s m.0.told) c.join_seat.ensures.2, times-append s c.args.into.now.seat.me.0.told c.args.from.seat.me.0.told)
