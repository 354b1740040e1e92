use Rattle.std.proofs.Common.{◌≡◌, ◌≤◌, length, take}
use Rattle.build_history.specs.Events.{ended}
use Rattle.build_report.specs.BuildText.{calls, puts}
use Rattle.build_report.proofs.build_text.count.Given as goal

-- the events before this one are counted
abbrev pub invariant-loop-event : goal.invariant-loop-event
invariant-loop-event l =
    (l.ends ≤ l.event-index) × (l.puts ≤ l.event-index) × (l.ends ≡ length (ended (take l.event-index l.events)))
    × (l.puts ≡ length (puts (take l.event-index l.events))) × (l.calls ≡ length (calls (take l.event-index l.events)))
