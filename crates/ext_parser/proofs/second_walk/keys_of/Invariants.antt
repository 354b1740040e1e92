use Rattle.std.proofs.Common.{◌≡◌, ◌++◌, drop, map}
use Rattle.ext_draft.specs.declared.draft.Setting.{Setting}
use Rattle.ext_parser.proofs.second_walk.keys_of.Given as goal

-- the keys so far, and those that are left
abbrev pub invariant-loop-setting : goal.invariant-loop-setting
invariant-loop-setting l = l.keys ++ map (λ (s : Setting). s.name) (drop l.setting-index l.config) ≡ map (λ (s : Setting). s.name) l.config
