-- What each kind of step tells the seat that makes it: of the step, the seat before, the number found
-- and the seat after. This project's own.
use Rattle.std.specs.Prelude.{◌≡◌, ◌≢◌, ℕ, ◌+◌, ◌<◌, ◌≤◌, [], ◌∷◌, length}
use Rattle.atomic_table.specs.Table.{Me, Step}
use Rattle.dep_board.specs.declared.view.SeatView.{SeatView}
use Rattle.dep_board.specs.Counts.{times}
use Rattle.dep_board.specs.Edges.{producers}
use Rattle.dep_board.specs.Rule.{all_parts, with_ended, with_late, with_down, ended_in, told_in, down_in, downs_in}

-- a seat's view and its slots, of which a board has none
abbrev pub Seated : Type 0
Seated = Me (Unit {0}) SeatView

-- what the rule makes of one view
pub record IsSound (v : SeatView) : Type 0 where
  pub once_ended : (p : ℕ) → ended_in p v ≤ 1
  pub once_told : (t : ℕ) → told_in t v ≤ 1
  -- a view that counted down all edges into a step that has one was told of it
  pub full : (t : ℕ) → 0 < length (producers t v.edges) → ((p : ℕ) → times p (producers t v.edges) ≤ down_in p t v) → 0 < told_in t v
  pub within : v.parts ≤ all_parts
  -- a view with all parts was told of a step only where it ended all its producers
  pub sure : (t : ℕ) → v.parts ≡ all_parts → 0 < told_in t v → (p : ℕ) → 0 < times p (producers t v.edges) → 0 < ended_in p v

-- what a count that was found says: it is at most what this view hasn't counted down, 0 where it was told, and exact where it has all parts
abbrev pub SaysOf : SeatView → ℕ → ℕ → Type 0
SaysOf v t count = (count + downs_in t v ≤ length (producers t v.edges)) × (0 < told_in t v → count ≡ 0) × (v.parts ≡ all_parts → count + downs_in t v ≡ length (producers t v.edges))

-- a load changes nothing
abbrev pub looked : Step (Unit {0}) → Seated → ℕ → Seated → Type 0
looked step before found after = (after ≡ before) × IsSound before.0 × ((t : ℕ) → t < before.0.steps → step.word ≡ 1 + t → SaysOf before.0 t found)

-- a claim that finds 0 is won, and the step stands in `ended`; else it stands in `late`
abbrev pub claimed : Step (Unit {0}) → Seated → ℕ → Seated → Type 0
claimed step before found after = (p : ℕ) → step.word ≡ 1 + before.0.steps + p
    → (found ≡ 0 → (times p before.0.ended ≡ 0) × (after ≡ (with_ended before.0 p, before.1)))
    × (found ≢ 0 → (before.0.parts ≡ all_parts → 0 < times p before.0.ended) × (after ≡ (with_late before.0 p, before.1)))

-- an edge from the step that was ended last is counted down; where 1 was found, the view was told of the step
abbrev pub counted : Step (Unit {0}) → Seated → ℕ → Seated → Type 0
counted step before found after = (t : ℕ) → step.word ≡ 1 + t
    → (found ≡ 1 → after ≡ (with_down before.0 t (t ∷ []), before.1)) × (found ≢ 1 → after ≡ (with_down before.0 t [], before.1))
