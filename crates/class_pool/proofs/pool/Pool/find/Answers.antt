use Rattle.std.proofs.Common.{ap, ◌∙◌}
use Rattle.class_pool.specs.Showing.{least}
use Rattle.class_pool.proofs.Grows.{looked, held_of}
use Rattle.class_pool.proofs.pool.Pool.find.Goals as goal

pub returns-then-not-self-clause-holds : goal.returns-then-not-self-clause-holds
returns-then-not-self-clause-holds c = held_of c.args.what.now c.args.self.now c.scan.result (c.scan.ensures ∙ ap (least c.args.what.now) (c.as_slice.ensures.value ∙ c.self.view_is))

pub returns-clause-least : goal.returns-clause-least
returns-clause-least c =
    looked c.self.inside c.args.what.now c.verified.result c.copied-hint.result c.as_slice-2.result.now c.in_ok-key.key.items c.as_slice-3.result.now c.self.invariant c.if-not-self.false c.in_ok-key.ensures.sound c.in_ok-key.ensures.key c.as_slice-2.ensures.value (c.copied-hint.ensures ∙ c.get.ensures.value) c.as_slice-3.ensures.value c.verified.ensures
    ∙ ap (least c.args.what.now) c.self.view_is

pub returns-clause-holds : goal.returns-clause-holds
returns-clause-holds c =
    held_of c.args.what.now c.args.self.now c.verified.result (
    looked c.self.inside c.args.what.now c.verified.result c.copied-hint.result c.as_slice-2.result.now c.in_ok-key.key.items c.as_slice-3.result.now c.self.invariant c.if-not-self.false c.in_ok-key.ensures.sound c.in_ok-key.ensures.key c.as_slice-2.ensures.value (c.copied-hint.ensures ∙ c.get.ensures.value) c.as_slice-3.ensures.value c.verified.ensures
    ∙ ap (least c.args.what.now) c.self.view_is
    )
