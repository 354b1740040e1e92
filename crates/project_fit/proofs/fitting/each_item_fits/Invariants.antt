use Rattle.std.proofs.Common.{◌≡◌, drop}
use Rattle.std.specs.List.{list_all}
use Rattle.project_fit.specs.Fits.{item_fits}
use Rattle.project_fit.proofs.fitting.each_item_fits.Given as goal

-- those so far fit
abbrev pub invariant-loop-item : goal.invariant-loop-item
invariant-loop-item l = list_all item_fits l.items ≡ list_all item_fits (drop l.item-index l.items)
