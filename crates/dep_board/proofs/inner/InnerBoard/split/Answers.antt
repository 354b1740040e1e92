use Rattle.std.proofs.Common.{rules, arith, ap, sym, ◌∙◌}
use Rattle.dep_board.specs.Rule.{handed_on}
use Rattle.dep_board.proofs.Keeps.{cuts, handed_on_fits}
use Rattle.dep_board.proofs.Passing.{new_settled, new_sound}
use Rattle.dep_board.proofs.inner.InnerBoard.split.Goals as goal

pub split_seat-seat-requires : goal.split_seat-seat-requires
split_seat-seat-requires c = (search rules, search rules, cuts _ _ _ _ (omega (arith, c.if-pass-lt2.false, c.args.pass.now.counted)))

pub invariant_of-result : goal.invariant_of-result
invariant_of-result c = let v = c.args.pass.now.seat.me.0 in let hands = handed_on_fits v.parts (omega (arith, c.if-pass-lt2.false, c.args.pass.now.counted)) in
    record {
      plain = search rules;
      counted = ap handed_on c.args.pass.now.counted ∙ sym (ap (λ m. m.0.parts) c.split_seat-seat.ensures.4);
      some_part = (handed_on_fits c.args.pass.now.parts (omega (arith, c.if-pass-lt2.false))).0;
      settled = new_settled (handed_on v.parts) v c.split_seat-seat.result.me.0 (search rules);
      sound = new_sound (handed_on v.parts) v c.split_seat-seat.result.me.0 (omega (arith, hands.1, c.args.pass.now.sound.within)) (search rules);
    }
