-- The text of a build: its history, and a last line that counts what was done, or names the step that failed and why. This project's own.
use Rattle.std.specs.Prelude.{ℕ, ◌-◌, Bool, true, false, List, [], ◌++◌, length, Option, Some, None, slice_get, codes}
use Rattle.std.specs.Fmt.{decimal}
use Rattle.std.specs.List.{filter, flat_map}
use Rattle.std.specs.Option.{option_and_then}
use Rattle.step_state.specs.declared.outcome.Reason.{Reason}
use Rattle.recorder_proxy.specs.declared.call.Call.{Call}
use Rattle.build_history.specs.declared.event.Event.{Event}
use Rattle.build_history.specs.declared.event.Event.TheVariants.{Start, Take, Put, End, Fail}
use Rattle.build_history.specs.Events.{ended}
use Rattle.build_history.specs.Jobs.{JobView}
use Rattle.build_history.specs.EventText.{history_text, step_text}
use Rattle.build_history.specs.ReasonText.{reason_text}

abbrev pub is_put : Event → Bool
is_put (Start s) = false
is_put (Take s item vs) = false
is_put (Put s item v) = true
is_put (End s calls) = false
is_put (Fail s r) = false

abbrev pub puts : List Event → List Event
puts h = filter is_put h

abbrev pub calls_of : Event → List Call
calls_of (Start s) = []
calls_of (Take s item vs) = []
calls_of (Put s item v) = []
calls_of (End s calls) = calls
calls_of (Fail s r) = []

-- the calls of all ends
abbrev pub calls : List Event → List Call
calls h = flat_map calls_of h

abbrev pub failure_of : Event → Option (ℕ × Reason)
failure_of (Start s) = None
failure_of (Take s item vs) = None
failure_of (Put s item v) = None
failure_of (End s calls) = None
failure_of (Fail s r) = Some (s, r)

-- the step that failed and why, where the last event is a failure
abbrev pub failure : List Event → Option (ℕ × Reason)
failure h = option_and_then failure_of (slice_get h (length h - 1))

-- how many steps ended, how many items were produced, how many calls were recorded
abbrev pub built_line : List ℕ → List Event → List ℕ
built_line app h =
    codes "built " ++ app ++ codes ": steps " ++ decimal (length (ended h)) ++ codes ", puts " ++ decimal (length (puts h)) ++ codes ", calls " ++ decimal (length (calls h)) ++ codes "\n"

abbrev pub failed_line : JobView → ℕ × Reason → List ℕ
failed_line job why = codes "step failed: " ++ step_text job why.0 ++ codes ": " ++ reason_text job.names why.1 ++ codes "\n"

abbrev pub last_line : List ℕ → JobView → List Event → Option (ℕ × Reason) → List ℕ
last_line app job h None = built_line app h
last_line app job h (Some why) = failed_line job why

abbrev pub build_text : List ℕ → JobView → List Event → List ℕ
build_text app job h = history_text job h ++ last_line app job h (failure h)
