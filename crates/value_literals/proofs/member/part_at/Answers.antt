use Rattle.std.proofs.Common.{◌≡◌, ◌*◌, ◌-◌, ◌<◌, length, drop, sym, ◌∙◌, arith, length-drop, take_all}
use Rattle.value_literals.proofs.Steps.{part_last}
use Rattle.value_literals.proofs.member.part_at.Goals as goal

pub returns-then-rest-lt200 : goal.returns-then-rest-lt200
returns-then-rest-lt200 c =
    let us = c.args.units.now in
    let few : length (drop (200 * c.args.j) us) < 200 = omega (arith, length-drop (200 * c.args.j) us, c.if-rest-lt200.true, c.requires) in
    take_all (length us - 200 * c.args.j) (drop (200 * c.args.j) us) (omega (arith, length-drop (200 * c.args.j) us)) ∙ sym (part_last us c.args.j few)
