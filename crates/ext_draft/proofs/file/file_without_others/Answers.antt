use Rattle.std.proofs.Common.{◌≡◌, ◌⊎◌, [], sym, subst, Result, Err}
use Rattle.toml.specs.View.{table_view}
use Rattle.toml_keys.specs.Documents.{texts_of}
use Rattle.ext_draft.specs.FirstWalk.{file_keys}
use Rattle.ext_draft.specs.Reading.{without_others}
use Rattle.ext_draft.specs.declared.draft.Draft.{Draft}
use Rattle.ext_draft.specs.declared.draft.Format.{Format}
use Rattle.ext_draft.specs.declared.fault.DraftFault.{DraftFault}
use Rattle.ext_draft.specs.declared.fault.DraftFault.TheVariants.{Memory}
use Rattle.ext_draft.proofs.file.file_without_others.Goals as goal

pub returns-in-One : goal.returns-in-One
unfolding texts_of
returns-in-One c =
    let answer : Result Draft DraftFault = c.without_others.result in
    let P : Format → Type 0 = λ f. (answer ≡ Err Memory) ⊎ (answer ≡ without_others (file_keys f) [] (table_view c.args.table.now) c.args.draft) in
    subst P (sym c.in-One.is) c.without_others.ensures

pub returns-in-Two : goal.returns-in-Two
unfolding texts_of
returns-in-Two c =
    let answer : Result Draft DraftFault = c.without_others-in-Two.result in
    let P : Format → Type 0 = λ f. (answer ≡ Err Memory) ⊎ (answer ≡ without_others (file_keys f) [] (table_view c.args.table.now) c.args.draft) in
    subst P (sym c.in-Two.is) c.without_others-in-Two.ensures
