use Rattle.std.proofs.Common.{◌++◌}
use Rattle.toml.specs.View.{table_view}
use Rattle.ext_draft.specs.Paths.{nth, inside}
use Rattle.ext_draft.specs.Places.{shown}
use Rattle.ext_draft.proofs.Bounds.{within-by}
use Rattle.ext_draft.proofs.extension.extension_at.Goals as goal

pub returns-in-Some-clause-within : goal.returns-in-Some-clause-within
returns-in-Some-clause-within c =
    within-by c.args.sums (inside (nth (shown c.args.prefix.now ++ c.args.key.now) c.args.index)) (table_view c.in-Some.table.now)
    c.extension_in.result c.extension_in.ensures c.requires
