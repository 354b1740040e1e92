-- The recordings of a history: what an application's start plays. This project's own.
use Rattle.std.specs.Prelude.{Bool, true, false, if◌then◌else◌, List, [], ◌∷◌, ◌++◌, Option, Some, None}
use Rattle.std.specs.List.{flat_map}
use Rattle.item_types.specs.declared.step.Phase.{Phase}
use Rattle.item_types.specs.declared.step.Phase.TheVariants.{Static, Runtime}
use Rattle.recorder_proxy.specs.declared.call.Recording.{Recording}
use Rattle.build_history.specs.declared.event.Event.{Event}
use Rattle.build_history.specs.declared.event.Event.TheVariants.{Start, Take, Put, End, Fail}
use Rattle.build_history.specs.Jobs.{JobView, decl_at}

abbrev pub is_of : Phase → Option Phase → Bool
is_of phase None = false
is_of Static (Some Static) = true
is_of Static (Some Runtime) = false
is_of Runtime (Some Static) = false
is_of Runtime (Some Runtime) = true

-- the recording of a step of that phase that ends here
abbrev pub recorded : JobView → Phase → Event → List Recording
recorded job phase (Start s) = []
recorded job phase (Take s item vs) = []
recorded job phase (Put s item v) = []
recorded job phase (End s calls) = if is_of phase (decl_at job s).phase then record { step = s; phase = phase; calls = calls } ∷ [] else []
recorded job phase (Fail s r) = []

-- those of the static steps in the order of their ends, and then those of the runtime steps
abbrev pub recordings : JobView → List Event → List Recording
recordings job h = flat_map (recorded job Static) h ++ flat_map (recorded job Runtime) h
