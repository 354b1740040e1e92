use Rattle.std.proofs.Common.{◌≡◌, ◌==◌, drop, map}
use Rattle.std.specs.List.{list_any}
use Rattle.project_fit.proofs.item_numbers.has_number.Given as goal

-- none so far has it
abbrev pub invariant-loop-entry : goal.invariant-loop-entry
invariant-loop-entry g l = list_any (λ m. m == l.number) (map g.I.Numbered.item l.entries) ≡ list_any (λ m. m == l.number) (map g.I.Numbered.item (drop l.entry-index l.entries))
