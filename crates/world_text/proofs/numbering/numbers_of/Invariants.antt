use Rattle.std.proofs.Common.{◌≡◌, ◌-◌, length}
use Rattle.world_text.proofs.Tabling.{Numbered}
use Rattle.world_text.proofs.numbering.numbers_of.Given as goal

abbrev pub invariant-loop-i : goal.invariant-loop-i
invariant-loop-i l = record { filled : Numbered l.table.items l.order (l.count - l.i); whole : length l.table.items ≡ l.objects }
