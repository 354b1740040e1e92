use Rattle.item_types.proofs.Fitting.{list_fits}
use Rattle.item_types.proofs.laws.a_list_of_what_fits_fits.Goals as goal

pub returns : goal.returns
returns c = list_fits
