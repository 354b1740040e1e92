use Rattle.std.proofs.Common.{refl}
use Rattle.std.proofs.lemmas.Result.{on_ok_weaker, on_err_weaker}
use Rattle.aug_base.proofs.Parts.{replaced_whole, stays_whole, stays_same}
use Rattle.aug_base.proofs.writing.write_file.Goals as goal

pub returns-then-not-has_folder-clause-err : goal.returns-then-not-has_folder-clause-err
returns-then-not-has_folder-clause-err g c = stays_same _ _ _ _ c.has_folder.ensures.files refl

pub returns-in-Ok-clause-ok : goal.returns-in-Ok-clause-ok
returns-in-Ok-clause-ok g c =
    on_ok_weaker c.replace_by.result
    (replaced_whole _ _ _ _ _ _ _ _ c.has_folder.ensures.files c.as_str.ensures.value c.in-Ok.ensures.part c.in-Ok.ensures.empty)
    c.replace_by.ensures.ok

pub returns-in-Ok-clause-err : goal.returns-in-Ok-clause-err
returns-in-Ok-clause-err g c =
    on_err_weaker c.replace_by.result
    (stays_whole _ _ _ _ _ _ _ c.has_folder.ensures.files c.as_str.ensures.value c.in-Ok.ensures.part c.in-Ok.ensures.empty)
    c.replace_by.ensures.err

pub returns-in-Err-clause-err : goal.returns-in-Err-clause-err
returns-in-Err-clause-err g c = stays_same _ _ _ _ c.has_folder.ensures.files c.in-Err.ensures.err
