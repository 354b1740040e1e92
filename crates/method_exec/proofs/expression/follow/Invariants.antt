use Rattle.std.proofs.Common.{◌≡◌, map, drop}
use Rattle.startup_rules.specs.Methods.{chain}
use Rattle.method_exec.proofs.expression.follow.Given as goal

abbrev pub invariant-loop-link : goal.invariant-loop-link
invariant-loop-link l = chain l.cx l.links l.fn.v l.world ≡ chain l.cx (drop l.link-index l.links) l.v l.world
