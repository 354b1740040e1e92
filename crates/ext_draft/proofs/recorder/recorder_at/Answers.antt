use Rattle.std.proofs.Common.{◌++◌}
use Rattle.toml.specs.View.{table_view}
use Rattle.ext_draft.specs.Paths.{nth, inside}
use Rattle.ext_draft.specs.Places.{shown}
use Rattle.ext_draft.proofs.Bounds.{few_methods-by}
use Rattle.ext_draft.proofs.recorder.recorder_at.Goals as goal

pub returns-in-Some-clause-few : goal.returns-in-Some-clause-few
returns-in-Some-clause-few c =
    few_methods-by c.args.before (inside (nth (shown c.args.prefix.now ++ c.args.key.now) c.args.index)) (table_view c.in-Some.table.now)
    c.recorder_in.result c.recorder_in.ensures c.requires
