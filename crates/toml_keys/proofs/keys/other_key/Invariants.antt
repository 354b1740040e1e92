use Rattle.std.proofs.Common.{◌≡◌}
use Rattle.toml.specs.View.{members_view}
use Rattle.toml_keys.specs.Documents.{other_key, texts_of}
use Rattle.toml_keys.proofs.keys.other_key.Given as goal

-- the entries that are left have the key, if there is one
abbrev pub invariant-loop-key : goal.invariant-loop-key
invariant-loop-key l = other_key (texts_of l.own) (members_view l.table.entries) ≡ other_key (texts_of l.own) (members_view l.key-iterator)
