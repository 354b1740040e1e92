use Rattle.std.proofs.Common.{◌≡◌, length}
use Rattle.toml.specs.View.{members_view}
use Rattle.ext_draft.specs.FirstWalk.{settings_at}
use Rattle.ext_draft.proofs.Reading.{after}
use Rattle.ext_draft.proofs.config.settings_in.Given as goal

-- what is left comes after the keys found so far
abbrev pub invariant-loop-key : goal.invariant-loop-key
invariant-loop-key l = settings_at 0 (members_view l.table.entries) ≡ after l.found (settings_at (length l.found) (members_view l.key-iterator))
