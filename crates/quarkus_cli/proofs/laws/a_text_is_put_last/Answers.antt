use Rattle.quarkus_cli.proofs.Complete.{put_last}
use Rattle.quarkus_cli.proofs.laws.a_text_is_put_last.Goals as goal

pub returns : goal.returns
returns c = put_last
