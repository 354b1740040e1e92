use Rattle.quarkus_cli.proofs.Complete.{plan_lacks, build_lacks, dump_lacks}
use Rattle.quarkus_cli.proofs.laws.a_missing_file_is_told.Goals as goal

pub returns : goal.returns
returns c = record { plan = plan_lacks; build = build_lacks; dump = dump_lacks }
