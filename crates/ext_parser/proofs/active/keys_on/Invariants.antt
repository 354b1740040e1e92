use Rattle.std.proofs.Common.{◌≡◌, ◌++◌, drop}
use Rattle.ext_parser.specs.Declarations.{keys_on}
use Rattle.ext_parser.proofs.active.keys_on.Given as goal

-- the keys so far, and those that are left
abbrev pub invariant-loop-setting : goal.invariant-loop-setting
invariant-loop-setting l = l.keys ++ keys_on (drop l.setting-index l.config) ≡ keys_on l.config
