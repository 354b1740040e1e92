use Rattle.quarkus_cli.proofs.Complete.{class_dumped}
use Rattle.quarkus_cli.proofs.laws.a_class_file_is_dumped.Goals as goal

pub returns : goal.returns
returns c =
    let law = c.one_reading.ensures in
    class_dumped law.never_both law.one_class
