use Rattle.std.proofs.Common.{◌≡◌, ◌≢◌, ◌+◌, ◌<◌, ◌≤◌, ◌==◌, ℕ, cond, length}
use Rattle.std.specs.Prelude.{slice_index_or}
use Rattle.step_set.specs.Places.{HoldsLesser}
use Rattle.step_set.proofs.set.fill.Given as goal

abbrev pub invariant-loop-at : goal.invariant-loop-at
invariant-loop-at l = record {
  wide : length l.places.items ≡ l.bound + l.bound;
  within : l.at < l.bound;
  held : (s : ℕ) → s < l.bound → slice_index_or l.places.items (l.bound + s) 0 ≡ cond (s == l.step) l.value (slice_index_or l.initial.places.items (l.bound + s) 0);
  lesser : (i : ℕ) → 1 ≤ i → i < l.bound → i ≢ l.at → HoldsLesser l.places.items i;
}

abbrev pub decreases-loop-at : goal.decreases-loop-at
decreases-loop-at l = l.at
