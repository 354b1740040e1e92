use Rattle.std.proofs.Common.{◌≡◌, ◌++◌, ◌≤◌, drop}
use Rattle.toml.specs.View.{items_view}
use Rattle.ext_draft.specs.Places.{shown}
use Rattle.ext_draft.specs.Declarations.{recorders_at}
use Rattle.ext_draft.proofs.Reading.{after}
use Rattle.ext_draft.proofs.recorder.recorders_at.Given as goal

-- what is left comes after the recorders found so far
abbrev pub invariant-loop-index : goal.invariant-loop-index
invariant-loop-index l = record {
  rest : recorders_at l.before (shown l.prefix ++ l.key) 0 (items_view l.values) ≡ after l.found (recorders_at l.methods (shown l.prefix ++ l.key) l.index (items_view (drop l.index l.values)));
  few : l.methods ≤ 1024;
}
