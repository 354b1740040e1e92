use Rattle.std.proofs.Common.{◌≡◌, ◌++◌, drop}
use Rattle.toml.specs.View.{items_view}
use Rattle.ext_draft.specs.Places.{shown}
use Rattle.ext_draft.specs.Reading.{entries_at}
use Rattle.ext_draft.proofs.Reading.{after}
use Rattle.ext_draft.proofs.entry.entries.Given as goal

-- what is left comes after the entries found so far
abbrev pub invariant-loop-index : goal.invariant-loop-index
invariant-loop-index g l = entries_at g.E.Entry.reads (shown l.prefix ++ l.key) 0 (items_view l.values) ≡ after l.found (entries_at g.E.Entry.reads (shown l.prefix ++ l.key) l.index (items_view (drop l.index l.values)))
