use Rattle.std.proofs.Common.{◌≡◌, drop}
use Rattle.std.specs.List.{position_from}
use Rattle.std.specs.Str.{bytes_eq}
use Rattle.startup_classes.proofs.loading.lists.Given as goal

abbrev pub invariant-loop-listed : goal.invariant-loop-listed
invariant-loop-listed l = position_from (bytes_eq l.name) l.listed-index (drop l.listed-index l.initial.listed) ≡ position_from (bytes_eq l.name) 0 l.initial.listed
