use Rattle.item_types.proofs.Fitting.{text_fits}
use Rattle.item_types.proofs.laws.a_short_text_fits.Goals as goal

pub returns : goal.returns
returns c = text_fits
