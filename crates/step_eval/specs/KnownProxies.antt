-- Where the proxies in what a step produces and records come from. This project's own, after Quarkus's recorders.
use Rattle.std.specs.Prelude.{◌≡◌, ◌⊎◌, ℕ, ◌≤◌, List, [], Option, Some, None}
use Rattle.std.specs.List.{All, Contains, flat_map}
use Rattle.item_types.specs.declared.step.Phase.{Phase}
use Rattle.item_types.specs.declared.step.Phase.TheVariants.{Static}
use Rattle.item_types.specs.declared.value.Proxy.{Proxy}
use Rattle.item_types.specs.declared.value.Value.{Value}
use Rattle.recorder_proxy.specs.Playable.{EachAfter, Keeps}
use Rattle.recorder_proxy.specs.Proxies.{proxies, first_runtime}
use Rattle.recorder_proxy.specs.Sizes.{cells_of, text_of}
use Rattle.recorder_proxy.specs.declared.call.Call.{Call}
use Rattle.step_eval.specs.Setting.{Setting}

-- it stands for what one of these calls of the step returns, and the call keeps that
pub record IsOwn (step : ℕ) (phase : Option Phase) (calls : List Call) (p : Proxy) : Type 0 where
  pub of_step : p.step ≡ step
  pub of_phase : phase ≡ Some p.phase
  pub kept : Keeps calls p.call

-- it was in what the step took, or is the step's own
abbrev pub IsKnown : Setting → List Call → Proxy → Type 0
IsKnown cx calls p = Contains (flat_map (λ values. flat_map proxies values) cx.lists) p ⊎ IsOwn cx.step cx.decl.phase calls p

-- each proxy in the value is known after these calls
abbrev pub HasKnown : Setting → List Call → Value → Type 0
HasKnown cx calls v = All (IsKnown cx calls) (proxies v)

-- each proxy that is produced is known, each that is handed to a call is known before it; a static step hands on no runtime proxy, a step without a phase records nothing, and what is recorded is within the limits
pub record IsRecorded (cx : Setting) (puts : List (ℕ × Value)) (calls : List Call) : Type 0 where
  pub puts_known : All (λ p. HasKnown cx calls p.1) puts
  pub calls_known : EachAfter (λ done c. All (HasKnown cx done) c.args) calls
  pub static_alone : cx.decl.phase ≡ Some Static → All (λ c. first_runtime c.args ≡ None) calls
  pub silent : cx.decl.phase ≡ None → calls ≡ []
  pub cells_in : cells_of calls ≤ 8192
  pub text_in : text_of calls ≤ 131072
