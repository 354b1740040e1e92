use Rattle.std.proofs.Common.{◌≡◌, drop}
use Rattle.step_eval.specs.Expressions.{chain}
use Rattle.step_eval.proofs.expression.follow.Given as goal

abbrev pub invariant-loop-link : goal.invariant-loop-link
invariant-loop-link l = chain l.cx l.at l.links l.fn.value l.fn.state ≡ chain l.cx l.at (drop l.link-index l.links) l.value l.state
