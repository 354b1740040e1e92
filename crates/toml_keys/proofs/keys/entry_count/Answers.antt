use Rattle.toml_keys.proofs.Counts.{count_view}
use Rattle.toml_keys.proofs.keys.entry_count.Goals as goal

pub returns-clause-value : goal.returns-clause-value
returns-clause-value c = cc (count_view c.args.array.now.items)
