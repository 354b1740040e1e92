use Rattle.toml_keys.specs.Documents.{texts_of}
use Rattle.ext_draft.specs.Names.{is_keyword}
use Rattle.ext_draft.proofs.names.is_keyword.Goals as goal

pub returns : goal.returns
unfolding is_keyword texts_of
returns c = c.is_among.ensures
