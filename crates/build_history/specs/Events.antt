-- What the events of a history say. This project's own.
use Rattle.std.specs.Prelude.{ℕ, ◌==◌, Bool, true, false, cond, ◌||◌, List, [], ◌∷◌}
use Rattle.std.specs.List.{filter, flat_map, All}
use Rattle.item_types.specs.Bounds.{IsBounded}
use Rattle.item_types.specs.declared.value.Value.{Value}
use Rattle.build_history.specs.declared.event.Event.{Event}
use Rattle.build_history.specs.declared.event.Event.TheVariants.{Start, Take, Put, End, Fail}

-- whose event it is
abbrev pub step_of : Event → ℕ
step_of (Start s) = s
step_of (Take s i vs) = s
step_of (Put s i v) = s
step_of (End s calls) = s
step_of (Fail s r) = s

-- the events of a step, in order
abbrev pub events_of : ℕ → List Event → List Event
events_of s h = filter (λ e. step_of e == s) h

abbrev pub taken_of : Event → List (List Value)
taken_of (Start s) = []
taken_of (Take s i vs) = vs ∷ []
taken_of (Put s i v) = []
taken_of (End s calls) = []
taken_of (Fail s r) = []

-- the lists that the takes carry, in order
abbrev pub taken : List Event → List (List Value)
taken h = flat_map taken_of h

abbrev pub put_of : ℕ → Event → List Value
put_of item (Start s) = []
put_of item (Take s i vs) = []
put_of item (Put s i v) = cond (i == item) (v ∷ []) []
put_of item (End s calls) = []
put_of item (Fail s r) = []

-- the values that the puts of an item carry, in order
abbrev pub put_in : ℕ → List Event → List Value
put_in item h = flat_map (put_of item) h

abbrev pub end_of : Event → List ℕ
end_of (Start s) = []
end_of (Take s i vs) = []
end_of (Put s i v) = []
end_of (End s calls) = s ∷ []
end_of (Fail s r) = []

-- the steps that have ended, in order
abbrev pub ended : List Event → List ℕ
ended h = flat_map end_of h

abbrev pub is_failure : Event → Bool
is_failure (Start s) = false
is_failure (Take s i vs) = false
is_failure (Put s i v) = false
is_failure (End s calls) = false
is_failure (Fail s r) = true

-- whether a step has failed
abbrev pub has_failed : List Event → Bool
has_failed [] = false
has_failed (e ∷ es) = is_failure e || has_failed es

-- each value in the event is within the bounds
abbrev pub HasBoundedParts : Event → Type 0
HasBoundedParts (Start s) = Unit {0}
HasBoundedParts (Take s i vs) = All IsBounded vs
HasBoundedParts (Put s i v) = IsBounded v
HasBoundedParts (End s calls) = All (λ c. All IsBounded c.args) calls
HasBoundedParts (Fail s r) = Unit {0}
