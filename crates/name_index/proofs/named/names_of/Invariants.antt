use Rattle.std.proofs.Common.{◌≡◌, ◌++◌, drop, map}
use Rattle.name_index.proofs.named.names_of.Given as goal

-- the names so far, and those that are left
abbrev pub invariant-loop-thing : goal.invariant-loop-thing
invariant-loop-thing g l = l.names ++ map g.M.Named.named (drop l.thing-index l.things) ≡ map g.M.Named.named l.things
