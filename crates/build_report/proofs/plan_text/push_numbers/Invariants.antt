use Rattle.std.proofs.Common.{◌≡◌, ◌++◌, drop, string_bytes}
use Rattle.build_report.specs.PlanText.{numbers_text}
use Rattle.build_report.proofs.plan_text.push_numbers.Given as goal

abbrev pub invariant-loop-number : goal.invariant-loop-number
invariant-loop-number l =
    string_bytes l.out ++ numbers_text (drop l.number-index l.numbers) ≡ string_bytes l.initial.out ++ numbers_text l.numbers
