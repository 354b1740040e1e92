use Rattle.quarkus_cli.proofs.Complete.{no_form}
use Rattle.quarkus_cli.proofs.laws.words_of_no_form_read_nothing.Goals as goal

pub returns : goal.returns
returns c = no_form
