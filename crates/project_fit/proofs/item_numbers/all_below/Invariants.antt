use Rattle.std.proofs.Common.{◌≡◌, drop, map}
use Rattle.std.specs.List.{list_all}
use Rattle.std.specs.Prelude.{nat_lt}
use Rattle.project_fit.proofs.item_numbers.all_below.Given as goal

-- those so far are below
abbrev pub invariant-loop-entry : goal.invariant-loop-entry
invariant-loop-entry g l = list_all (λ n. nat_lt n l.size) (map g.I.Numbered.item l.entries) ≡ list_all (λ n. nat_lt n l.size) (map g.I.Numbered.item (drop l.entry-index l.entries))
