use Rattle.std.proofs.Common.{◌≡◌, ◌++◌, drop, string_bytes}
use Rattle.build_history.specs.EventText.{calls_text}
use Rattle.build_history.proofs.call_lines.push_calls.Given as goal

abbrev pub invariant-loop-number : goal.invariant-loop-number
invariant-loop-number l = string_bytes l.out ++ calls_text l.job l.step l.number (drop l.number l.calls) ≡ string_bytes l.initial.out ++ calls_text l.job l.step 0 l.calls
