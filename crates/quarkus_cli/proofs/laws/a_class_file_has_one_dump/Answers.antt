use Rattle.quarkus_cli.proofs.OneDump.{absent_is, large_is, dumped_is, refused_is}
use Rattle.quarkus_cli.proofs.laws.a_class_file_has_one_dump.Goals as goal

pub returns : goal.returns
returns c =
    let law = c.one_reading.ensures in
    record { absent = absent_is; large = large_is; dumped = dumped_is law.never_both law.one_class; refused = refused_is law.never_both law.one_place }
