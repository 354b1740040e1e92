-- Names that tell steps apart in a text. This project's own.
use Rattle.std.specs.Prelude.{ℕ, ◌≡◌, ◌<◌, ◌==◌, Bool, true, ◌||◌, ◌&&◌, not, List, [], ◌∷◌, length}
use Rattle.build_history.specs.Jobs.{JobView}
use Rattle.build_history.specs.EventText.{step_text}

-- a text without a blank and without a line feed
abbrev pub is_plain : List ℕ → Bool
is_plain [] = true
is_plain (c ∷ cs) = not (c == 32 || c == 10) && is_plain cs

-- the steps' names are plain and tell the steps apart
pub record IsNamed (job : JobView) : Type 0 where
  pub plain : (s : ℕ) → s < length job.plan.steps → is_plain (step_text job s) ≡ true
  pub apart : (s t : ℕ) → s < length job.plan.steps → t < length job.plan.steps → step_text job s ≡ step_text job t → s ≡ t
