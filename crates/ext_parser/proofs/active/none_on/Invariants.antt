use Rattle.std.proofs.Common.{◌≡◌, drop, not}
use Rattle.std.specs.List.{list_all}
use Rattle.name_index.specs.Place.{has}
use Rattle.ext_parser.proofs.active.none_on.Given as goal

-- none of the keys so far is true
abbrev pub invariant-loop-key : goal.invariant-loop-key
invariant-loop-key l = list_all (λ key. not (has l.on key)) l.keys ≡ list_all (λ key. not (has l.on key)) (drop l.key-index l.keys)
