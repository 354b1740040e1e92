-- The text of a history: a line for each event, and after an end a line for each call. This project's own.
use Rattle.std.specs.Prelude.{ℕ, ◌+◌, Bool, true, false, List, [], ◌∷◌, ◌++◌, Option, Some, None, length, map, slice_get, codes}
use Rattle.std.specs.Fmt.{decimal}
use Rattle.std.specs.List.{flat_map}
use Rattle.item_types.specs.Printed.{joined, value_text, proxy_text}
use Rattle.item_types.specs.declared.decl.MethodSig.{MethodSig}
use Rattle.item_types.specs.declared.decl.Names.{Names}
use Rattle.item_types.specs.declared.decl.RecorderDecl.{RecorderDecl}
use Rattle.item_types.specs.declared.step.Phase.{Phase}
use Rattle.item_types.specs.declared.value.Value.{Value}
use Rattle.recorder_proxy.specs.declared.call.Call.{Call}
use Rattle.build_history.specs.declared.event.Event.{Event}
use Rattle.build_history.specs.declared.event.Event.TheVariants.{Start, Take, Put, End, Fail}
use Rattle.build_history.specs.Events.{step_of}
use Rattle.build_history.specs.Jobs.{JobView, decl_at}
use Rattle.build_history.specs.ReasonText.{item_text, reason_text}

-- a step's name: its extension's and its own
abbrev pub step_text : JobView → ℕ → List ℕ
step_text job s = (decl_at job s).ext ++ codes "." ++ (decl_at job s).name

abbrev pub values_text : Names → List Value → List ℕ
values_text names vs = codes "(" ++ joined [] (codes ", ") (map (value_text names) vs) ++ codes ")"

abbrev pub sig_name : Option MethodSig → List ℕ
sig_name None = []
sig_name (Some sig) = sig.name

-- a recorder's name and a method's
abbrev pub method_in : Option RecorderDecl → ℕ → List ℕ
method_in None method = codes "."
method_in (Some decl) method = decl.name ++ codes "." ++ sig_name (slice_get decl.methods method)

-- the proxy that stands for what a kept call returns
abbrev pub kept_text : ℕ → ℕ → Option Phase → Bool → List ℕ
kept_text s j phase false = []
kept_text s j None true = []
kept_text s j (Some phase) true = codes " -> " ++ proxy_text (record { step = s; call = j; phase = phase })

-- the line of a step's call of that number
abbrev pub call_text : JobView → ℕ → ℕ → Call → List ℕ
call_text job s j c =
    codes "  call " ++ method_in (slice_get job.names.recorders c.recorder) c.method ++ values_text job.names c.args ++ kept_text s j (decl_at job s).phase c.keeps ++ codes "\n"

-- the lines of these calls, the first of that number
abbrev pub calls_text : JobView → ℕ → ℕ → List Call → List ℕ
calls_text job s j [] = []
calls_text job s j (c ∷ cs) = call_text job s j c ++ calls_text job s (j + 1) cs

-- the word of an event
abbrev pub word_of : Event → List ℕ
word_of (Start s) = codes "start"
word_of (Take s item vs) = codes "take"
word_of (Put s item v) = codes "put"
word_of (End s calls) = codes "end"
word_of (Fail s r) = codes "fail"

-- what stands after the step's name
abbrev pub rest_text : JobView → Event → List ℕ
rest_text job (Start s) = codes "\n"
rest_text job (Take s item vs) = codes " " ++ item_text job.names item ++ codes " " ++ values_text job.names vs ++ codes "\n"
rest_text job (Put s item v) = codes " " ++ item_text job.names item ++ codes " " ++ value_text job.names v ++ codes "\n"
rest_text job (End s calls) = codes " " ++ decimal (length calls) ++ codes "\n" ++ calls_text job s 0 calls
rest_text job (Fail s r) = codes " " ++ reason_text job.names r ++ codes "\n"

abbrev pub event_text : JobView → Event → List ℕ
event_text job e = word_of e ++ codes " " ++ step_text job (step_of e) ++ rest_text job e

abbrev pub history_text : JobView → List Event → List ℕ
history_text job h = flat_map (event_text job) h
