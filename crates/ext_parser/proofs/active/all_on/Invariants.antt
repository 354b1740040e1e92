use Rattle.std.proofs.Common.{◌≡◌, drop}
use Rattle.std.specs.List.{list_all}
use Rattle.name_index.specs.Place.{has}
use Rattle.ext_parser.proofs.active.all_on.Given as goal

-- the keys so far are true
abbrev pub invariant-loop-key : goal.invariant-loop-key
invariant-loop-key l = list_all (has l.on) l.keys ≡ list_all (has l.on) (drop l.key-index l.keys)
