use Rattle.std.proofs.Common.{◌≡◌, ◌++◌, drop}
use Rattle.toml.specs.View.{items_view}
use Rattle.ext_draft.specs.Places.{shown}
use Rattle.ext_draft.specs.Reading.{entries_at, name_entry}
use Rattle.ext_draft.proofs.Reading.{after}
use Rattle.ext_draft.proofs.table.names_in.Given as goal

-- what is left comes after the names found so far
abbrev pub invariant-loop-index : goal.invariant-loop-index
invariant-loop-index l = entries_at name_entry (shown l.prefix ++ l.key) 0 (items_view l.values) ≡ after l.found (entries_at name_entry (shown l.prefix ++ l.key) l.index (items_view (drop l.index l.values)))
