use Rattle.std.proofs.Common.{◌≡◌, ◌++◌, drop, map}
use Rattle.ext_parser.specs.Declarations.{number}
use Rattle.ext_parser.proofs.mention.numbered.Given as goal

-- the entries found so far, and those that are left
abbrev pub invariant-loop-entry : goal.invariant-loop-entry
invariant-loop-entry g l =
    l.found ++ map (λ m. g.M.Mention.with_number (number l.items (g.M.Named.named m)) m) (drop l.entry-index l.entries)
    ≡ map (λ m. g.M.Mention.with_number (number l.items (g.M.Named.named m)) m) l.entries
