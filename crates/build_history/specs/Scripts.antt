-- The script of a step: all its events, once it is known what it takes. This project's own.
use Rattle.std.specs.Prelude.{ℕ, ◌==◌, cond, List, [], ◌∷◌, ◌++◌, length}
use Rattle.std.specs.List.{filter}
use Rattle.item_types.specs.declared.step.Consume.{Consume}
use Rattle.item_types.specs.declared.value.Value.{Value}
use Rattle.step_state.specs.declared.outcome.Outcome.{Outcome}
use Rattle.step_state.specs.declared.outcome.Outcome.TheVariants.{Done, Fails}
use Rattle.build_history.specs.declared.event.Event.{Event}
use Rattle.build_history.specs.declared.event.Event.TheVariants.{Start, Take, Put, End, Fail}
use Rattle.build_history.specs.Jobs.{JobView, consumes_at, meaning_at, is_effective}

-- a take for each list, in the order of the consumptions
abbrev pub takes_of : ℕ → List Consume → List (List Value) → List Event
takes_of s [] lists = []
takes_of s (c ∷ cs) [] = []
takes_of s (c ∷ cs) (vs ∷ lists) = Take s c.item vs ∷ takes_of s cs lists

-- a put for each of these, in order
abbrev pub puts_of : ℕ → List (ℕ × Value) → List Event
puts_of s [] = []
puts_of s (p ∷ ps) = Put s p.0 p.1 ∷ puts_of s ps

-- the puts whose item the step effectively produces
abbrev pub kept : JobView → ℕ → List (ℕ × Value) → List (ℕ × Value)
kept job s puts = filter (λ p. is_effective job.plan.steps s p.0) puts

-- what follows the takes where the evaluation ends so
abbrev pub rest_of : JobView → ℕ → Outcome → List Event
rest_of job s (Done puts calls) = puts_of s (kept job s puts) ++ End s calls ∷ []
rest_of job s (Fails r) = Fail s r ∷ []

-- the start and the takes
abbrev pub opening : JobView → ℕ → List (List Value) → List Event
opening job s lists = Start s ∷ takes_of s (consumes_at job s) lists

-- the rest stands where each consumption has its list
abbrev pub script : JobView → ℕ → List (List Value) → List Event
script job s lists = opening job s lists ++ cond (length lists == length (consumes_at job s)) (rest_of job s (meaning_at job s lists)) []
