-- Which calls fit the declared recorders, as what is recorded, emitted and played has to. This project's own, after Quarkus's recorders.
use Rattle.std.specs.Prelude.{◌≡◌, ℕ, ◌<◌, List, length, slice_get}
use Rattle.std.specs.List.{All}
use Rattle.item_types.specs.Fitting.{ValueFits}
use Rattle.item_types.specs.Named.{recorder_methods, method_params}
use Rattle.item_types.specs.declared.decl.MethodSig.{MethodSig}
use Rattle.item_types.specs.declared.decl.Names.{Names}
use Rattle.recorder_proxy.specs.declared.call.Call.{Call}
use Rattle.recorder_proxy.specs.declared.call.Recording.{Recording}

-- the methods of the recorder of that number
abbrev pub methods_at : Names → ℕ → List MethodSig
methods_at names recorder = recorder_methods (slice_get names.recorders recorder)

-- the recorder and its method are declared, and there is a value that fits for each parameter
pub record CallFits (names : Names) (call : Call) : Type 0 where
  pub recorder_in : call.recorder < length names.recorders
  pub method_in : call.method < length (methods_at names call.recorder)
  pub arity : length call.args ≡ length (method_params (slice_get (methods_at names call.recorder) call.method))
  pub args_fit : All (ValueFits names) call.args

-- each call of the recording fits
pub record RecordingFits (names : Names) (recording : Recording) : Type 0 where
  pub calls_fit : All (CallFits names) recording.calls
