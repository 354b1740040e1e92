use Rattle.item_types.proofs.Fitting.{bean_fits}
use Rattle.item_types.proofs.laws.a_whole_bean_fits.Goals as goal

pub returns : goal.returns
returns c = bean_fits
