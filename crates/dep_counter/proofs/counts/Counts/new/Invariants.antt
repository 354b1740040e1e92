use Rattle.std.proofs.Common.{◌≡◌, ℕ, ◌<◌, length}
use Rattle.std.specs.Prelude.{slice_index_or}
use Rattle.dep_counter.specs.Counting.{HowMany, Leads}
use Rattle.dep_counter.proofs.counts.Counts.new.Given as goal

abbrev pub invariant-loop-step : goal.invariant-loop-step
invariant-loop-step l = record {
  wide : length l.counts ≡ l.step;
  exact : (s : ℕ) → s < l.step → HowMany (λ p. Leads l.plan p s) (slice_index_or l.counts s 0);
}
