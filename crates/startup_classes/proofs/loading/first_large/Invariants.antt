use Rattle.std.proofs.Common.{◌≡◌, drop}
use Rattle.std.specs.List.{position_from}
use Rattle.startup_classes.specs.Loading.{is_large}
use Rattle.startup_classes.proofs.loading.first_large.Given as goal

abbrev pub invariant-loop-index : goal.invariant-loop-index
invariant-loop-index l = position_from is_large l.index (drop l.index l.files) ≡ position_from is_large 0 l.files
