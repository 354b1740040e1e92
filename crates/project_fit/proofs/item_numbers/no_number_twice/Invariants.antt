use Rattle.std.proofs.Common.{◌≡◌, [], drop, map, take}
use Rattle.project_fit.specs.Fits.{no_number_twice}
use Rattle.project_fit.proofs.item_numbers.no_number_twice.Given as goal

-- what is left comes after the numbers so far
abbrev pub invariant-loop-index : goal.invariant-loop-index
invariant-loop-index g l =
    no_number_twice [] (map g.I.Numbered.item l.entries) ≡ no_number_twice (map g.I.Numbered.item (take l.index l.entries)) (map g.I.Numbered.item (drop l.index l.entries))
