-- What holds of a pass between two calls, and what a call says of it. This project's own.
use Rattle.std.specs.Prelude.{◌≡◌, ℕ, ◌<◌, ◌+◌, ◌-◌, List, [], ◌∷◌, ◌++◌, length, cond, nat_lt, slice_index}
use Rattle.dep_board.specs.declared.view.SeatView.{SeatView}
use Rattle.dep_board.specs.Counts.{times}
use Rattle.dep_board.specs.Edges.{producers, dependents}
use Rattle.dep_board.specs.Rule.{ended_in, down_in}

-- what is counted down is just the edges out of `ended`
abbrev pub IsSettled : SeatView → Type 0
IsSettled v = (p s : ℕ) → (0 < ended_in p v → down_in p s v ≡ times p (producers s v.edges)) × (ended_in p v ≡ 0 → down_in p s v ≡ 0)

-- the steps of a list that stand in `ended`
abbrev pub kept_in : List ℕ → List ℕ → List ℕ
kept_in ended [] = []
kept_in ended (p ∷ ps) = cond (nat_lt 0 (times p ended)) (p ∷ []) [] ++ kept_in ended ps

-- the number of edges into s less those from steps that stand in `ended`
abbrev pub open_edges : ℕ → List (ℕ × ℕ) → List ℕ → ℕ
open_edges s edges ended = length (producers s edges) - length (kept_in ended (producers s edges))

-- all steps that s waits for stand in `ended`
abbrev pub HasAllProducers : ℕ → List (ℕ × ℕ) → List ℕ → Type 0
HasAllProducers s edges ended = (p : ℕ) → 0 < times p (producers s edges) → 0 < times p ended

-- s waits for the step, and with it all that s waits for stand in `ended`
abbrev pub IsReleased : ℕ → ℕ → List (ℕ × ℕ) → List ℕ → Type 0
IsReleased step s edges ended = (0 < times s (dependents step edges)) × HasAllProducers s edges ended

-- the words at the start: each count is the number of edges into its step, and no claim is taken
pub record AreOpening (steps : ℕ) (edges : List (ℕ × ℕ)) (words : List ℕ) : Type 0 where
  pub wide : length words ≡ 1 + steps + steps
  pub counts : (s : ℕ) → s < steps → slice_index words (1 + s) ≡ length (producers s edges)
  pub free : (p : ℕ) → p < steps → slice_index words (1 + steps + p) ≡ 0
