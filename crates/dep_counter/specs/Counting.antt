-- How many edge producers of a step haven't ended. This project's own.
use Rattle.std.specs.Prelude.{◌≡◌, ℕ, ◌-◌, ◌<◌, ◌↔◌, List, ◌∷◌, [], ◌++◌, length, Contains, slice_index_or}
use Rattle.std.specs.List.Sorted.{IsStrictlyIncreasing}
use Rattle.chain_builder.specs.Edge.{HasEdge}
use Rattle.chain_builder.specs.PlanView.{PlanView}

-- so many numbers have the property
pub record HowMany (P : ℕ → Type 0) (n : ℕ) : Type 0 where
  pub list : List ℕ
  pub rising : IsStrictlyIncreasing list
  pub exact : (x : ℕ) → Contains list x ↔ P x
  pub count : length list ≡ n

-- there is an edge from p to s
abbrev pub Leads : PlanView → ℕ → ℕ → Type 0
Leads plan p s = HasEdge plan.steps plan.finals p s

-- p is an edge producer of s that isn't among the steps that have ended
abbrev pub IsOpen : PlanView → List ℕ → ℕ → ℕ → Type 0
IsOpen plan ended s p = Leads plan p s × (Contains ended p → ⊥)

-- each step's count is the number of its edge producers that haven't ended
pub record AreCounts (plan : PlanView) (ended : List ℕ) (counts : List ℕ) : Type 0 where
  pub wide : length counts ≡ length plan.steps
  pub exact : (s : ℕ) → s < length plan.steps → HowMany (IsOpen plan ended s) (slice_index_or counts s 0)

-- s waits for the step alone: with its end all edge producers of s have ended
abbrev pub IsReleasedBy : PlanView → List ℕ → ℕ → ℕ → Type 0
IsReleasedBy plan ended step s = Leads plan step s × ((p : ℕ) → Leads plan p s → Contains (ended ++ step ∷ []) p)

-- the counts of these steps are one less
pub record AreLowered (steps : List ℕ) (old new : List ℕ) : Type 0 where
  pub wide : length new ≡ length old
  pub lowered : (s : ℕ) → Contains steps s → slice_index_or new s 0 ≡ slice_index_or old s 0 - 1
  pub others : (s : ℕ) → (Contains steps s → ⊥) → slice_index_or new s 0 ≡ slice_index_or old s 0
