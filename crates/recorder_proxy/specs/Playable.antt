-- Which recordings a start can play, within limits on how many there are and on what each records. This project's own, after Quarkus's recorders.
use Rattle.std.specs.Prelude.{◌≡◌, ◌≢◌, ℕ, ◌≤◌, ◌<◌, IsTrue, not, List, [], ◌∷◌, ◌++◌, length, slice_get, IsSomeAnd}
use Rattle.std.specs.List.{All, Contains, filter, flat_map}
use Rattle.item_types.specs.declared.value.Proxy.{Proxy}
use Rattle.recorder_proxy.specs.Proxies.{proxies, is_runtime}
use Rattle.recorder_proxy.specs.Sizes.{cells_of, text_of}
use Rattle.recorder_proxy.specs.declared.call.Call.{Call}
use Rattle.recorder_proxy.specs.declared.call.Recording.{Recording}

-- P holds of each element and the list of those before it
abbrev pub EachAfter : {X : Type 0} → (List X → X → Type 0) → List X → Type 0
EachAfter {X} P xs = (before : List X) (x : X) (after : List X) → xs ≡ before ++ x ∷ after → P before x

-- what the call of that number returns is kept
abbrev pub Keeps : List Call → ℕ → Type 0
Keeps calls number = IsSomeAnd (slice_get calls number) (λ c. IsTrue c.keeps)

-- the proxy names a keeping call of one of these recordings
abbrev pub IsKept : List Recording → Proxy → Type 0
IsKept recordings p = (r : Recording) × Contains recordings r × (r.step ≡ p.step) × Keeps r.calls p.call

-- each proxy in the call names a keeping call of an earlier recording, or one of those done of its own
abbrev pub NamesKept : List Recording → Recording → List Call → Call → Type 0
NamesKept earlier own done call = All (IsKept (earlier ++ record own { calls = done } ∷ [])) (flat_map proxies call.args)

-- each call of the recording names what is kept before it
abbrev pub CallsNameKept : List Recording → Recording → Type 0
CallsNameKept earlier own = EachAfter (NamesKept earlier own) own.calls

-- no argument of the calls has a proxy in it
abbrev pub HasNoProxy : List Call → Type 0
HasNoProxy calls = All (λ c. flat_map proxies c.args ≡ []) calls

-- none of the recordings is of that step
abbrev pub HasNoStep : ℕ → List Recording → Type 0
HasNoStep step recordings = All (λ r. r.step ≢ step) recordings

-- the static ones, and then the runtime ones
abbrev pub IsStaticFirst : List Recording → Type 0
IsStaticFirst recordings = recordings ≡ filter (λ r. not (is_runtime r.phase)) recordings ++ filter (λ r. is_runtime r.phase) recordings

-- what the recording holds is within the limits
abbrev pub IsWithin : ℕ → ℕ → Recording → Type 0
IsWithin most_cells most_text r = (cells_of r.calls ≤ most_cells) × (text_of r.calls ≤ most_text)

-- not too many, of different steps, each within the limits, the static ones first, and each proxy names a call that is kept before
pub record IsPlayable (most most_cells most_text : ℕ) (recordings : List Recording) : Type 0 where
  pub few : length recordings ≤ most
  pub one_a_step : EachAfter (λ earlier r. HasNoStep r.step earlier) recordings
  pub within : All (IsWithin most_cells most_text) recordings
  pub static_first : IsStaticFirst recordings
  pub kept : EachAfter CallsNameKept recordings

-- the recording can come in between those before it and those after it
pub record MayComeIn (most most_cells most_text : ℕ) (before after : List Recording) (r : Recording) : Type 0 where
  pub few : length (before ++ after) < most
  pub new_step : HasNoStep r.step (before ++ after)
  pub within : IsWithin most_cells most_text r
  pub static_first : IsStaticFirst (before ++ r ∷ after)
  pub kept : CallsNameKept before r
