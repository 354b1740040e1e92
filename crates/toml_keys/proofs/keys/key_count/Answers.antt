use Rattle.toml_keys.proofs.Counts.{key_count_view}
use Rattle.toml_keys.proofs.keys.key_count.Goals as goal

pub returns-clause-value : goal.returns-clause-value
returns-clause-value c = cc (key_count_view c.args.table.now.entries)
