-- The rule of the board: what its words and all views are to each other at every moment. Word 0 is
-- not used. Word 1 + s is the count of the step s: how many edges into it aren't counted down. Word
-- 1 + steps + p is the claim of the step p: 1 where a view has ended it. This project's own.
use Rattle.std.specs.Prelude.{◌≡◌, ℕ, zero, suc, ◌+◌, ◌-◌, ◌/◌, ◌<◌, ◌≤◌, List, [], ◌∷◌, ◌++◌, length, slice_index}
use mathlib.Core.Option.{some}
use lib.ListN.{get_elem?}
use Rattle.atomic_table.specs.Table.{State}
use Rattle.dep_board.specs.declared.view.SeatView.{SeatView}
use Rattle.dep_board.specs.Counts.{total, times, last_of}
use Rattle.dep_board.specs.Edges.{producers}

-- the parts of a whole board, 2 ^ 63
abbrev pub all_parts : ℕ
all_parts = 9223372036854775808

-- what a split hands on of so many parts: a sixty-fourth, and at least one of two
abbrev pub handed_on : ℕ → ℕ
handed_on parts = (parts + 62) / 64

-- a view of a plan with empty lists
abbrev pub blank : ℕ → ℕ → List (ℕ × ℕ) → SeatView
blank parts steps edges = record { parts = parts; steps = steps; edges = edges; ended = []; told = []; late = []; downs = [] }

-- what a view is after it was joined into another
abbrev pub spent : SeatView
spent = blank 0 0 []

abbrev pub split_off : SeatView → SeatView
split_off v = blank (handed_on v.parts) v.steps v.edges

-- what is left of a view after a split
abbrev pub left_over : SeatView → SeatView
left_over v = record { parts = v.parts - handed_on v.parts; steps = v.steps; edges = v.edges; ended = v.ended; told = v.told; late = v.late; downs = v.downs }

abbrev pub joined : SeatView → SeatView → SeatView
joined v u = record { parts = v.parts + u.parts; steps = v.steps; edges = v.edges; ended = v.ended ++ u.ended; told = v.told ++ u.told; late = v.late ++ u.late; downs = v.downs ++ u.downs }

abbrev pub with_ended : SeatView → ℕ → SeatView
with_ended v p = record { parts = v.parts; steps = v.steps; edges = v.edges; ended = v.ended ++ p ∷ []; told = v.told; late = v.late; downs = v.downs }

abbrev pub with_late : SeatView → ℕ → SeatView
with_late v p = record { parts = v.parts; steps = v.steps; edges = v.edges; ended = v.ended; told = v.told; late = v.late ++ p ∷ []; downs = v.downs }

-- the edge to s from the step that was ended last is counted down
abbrev pub with_down : SeatView → ℕ → List ℕ → SeatView
with_down v s news = record { parts = v.parts; steps = v.steps; edges = v.edges; ended = v.ended; told = v.told ++ news; late = v.late; downs = v.downs ++ (last_of v.ended, s) ∷ [] }

abbrev pub parts_in : SeatView → ℕ
parts_in v = v.parts

-- how often a view has p in `ended`, s in `told`, and the edge from p to s in `downs`
abbrev pub ended_in : ℕ → SeatView → ℕ
ended_in p v = times p v.ended

abbrev pub told_in : ℕ → SeatView → ℕ
told_in s v = times s v.told

abbrev pub down_in : ℕ → ℕ → SeatView → ℕ
down_in p s v = times p (producers s v.downs)

-- how many edges into s a view has counted down
abbrev pub downs_in : ℕ → SeatView → ℕ
downs_in s v = length (producers s v.downs)

-- how many views were told of a step, by its count and the number of edges into it: one where it has an edge and the count is 0
abbrev pub due : ℕ → ℕ → ℕ
due count zero = 0
due zero (suc more) = 1
due (suc count) (suc more) = 0

pub record IsKept (steps : ℕ) (edges : List (ℕ × ℕ)) (s : State (Unit {0}) SeatView) : Type 0 where
  -- all parts are with the views, and one without parts has done nothing
  pub shares : total parts_in s.views ≡ all_parts
  pub idle : (i : ℕ) (v : SeatView) → get_elem? s.views i ≡ some v → v.parts ≡ 0 → (v.ended ≡ []) × (v.downs ≡ [])
  -- a word for each count and each claim; no edge leads past the last step
  pub wide : length s.words ≡ 1 + steps + steps
  pub near : (t : ℕ) → steps ≤ t → length (producers t edges) ≡ 0
  -- a claim is how many views have ended the step, and that is one at most
  pub claims : (p : ℕ) → p < steps → slice_index s.words (1 + steps + p) ≡ total (ended_in p) s.views
  pub single : (p : ℕ) → total (ended_in p) s.views ≤ 1
  -- each edge is counted down as often as the plan has it at most, by the view that ended its producer
  pub downs : (p t : ℕ) → total (down_in p t) s.views ≤ times p (producers t edges)
  pub own : (i : ℕ) (v : SeatView) → get_elem? s.views i ≡ some v → (p t : ℕ) → 0 < down_in p t v → 0 < ended_in p v
  -- a count is the number of edges into its step that no view has counted down
  pub counts : (t : ℕ) → t < steps → slice_index s.words (1 + t) + total (downs_in t) s.views ≡ length (producers t edges)
  -- one view was told of a step with an edge, once, where its count is 0; that view has counted down an edge into it
  pub told : (t : ℕ) → total (told_in t) s.views ≡ due (slice_index s.words (1 + t)) (length (producers t edges))
  pub known : (i : ℕ) (v : SeatView) → get_elem? s.views i ≡ some v → (t : ℕ) → 0 < told_in t v → 0 < downs_in t v
  -- a step that a view found taken has the claim 1
  pub late : (i : ℕ) (v : SeatView) → get_elem? s.views i ≡ some v → (p : ℕ) → 0 < times p v.late → slice_index s.words (1 + steps + p) ≡ 1
