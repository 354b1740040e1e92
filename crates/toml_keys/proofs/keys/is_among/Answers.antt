use Rattle.std.proofs.Common.{◌∙◌}
use Rattle.toml_keys.proofs.Words.{is_among-texts_of}
use Rattle.toml_keys.proofs.keys.is_among.Goals as goal

pub returns : goal.returns
returns c = c.is_any_of.ensures ∙ is_among-texts_of c.args.text.now c.args.words.now
