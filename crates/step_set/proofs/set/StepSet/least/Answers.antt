use Rattle.std.proofs.Common.{arith}
use Rattle.step_set.proofs.Tree.{top_member, top_first, top_past}
use Rattle.step_set.proofs.set.StepSet.least.Goals as goal

pub returns-then-top-len-clause-member : goal.returns-then-top-len-clause-member
returns-then-top-len-clause-member c = top_member c.self.inside.members.items c.args.self.now c.self.inside.places.items c.deref.result.now c.in_ok-top.field-0.now c.self.invariant c.self.view_is c.deref.ensures.value (c.in_ok-top.ensures.lookup.3.1 0) (omega (arith, c.if-top-len.true, c.len.ensures))

pub returns-then-top-len-clause-least : goal.returns-then-top-len-clause-least
returns-then-top-len-clause-least c = top_first c.self.inside.members.items c.args.self.now c.self.inside.places.items c.deref.result.now c.in_ok-top.field-0.now c.self.invariant c.self.view_is c.deref.ensures.value (c.in_ok-top.ensures.lookup.3.1 0)

pub returns-else-top-len-clause-none : goal.returns-else-top-len-clause-none
returns-else-top-len-clause-none c = top_past c.self.inside.members.items c.args.self.now c.self.inside.places.items c.deref.result.now c.in_ok-top.field-0.now c.self.invariant c.self.view_is c.deref.ensures.value (c.in_ok-top.ensures.lookup.3.1 0) (λ lt. omega (arith, lt, c.if-top-len.false, c.len.ensures))
