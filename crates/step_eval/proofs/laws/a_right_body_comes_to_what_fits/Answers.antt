use Rattle.step_eval.proofs.Fits.{outcome_fits}
use Rattle.step_eval.proofs.laws.a_right_body_comes_to_what_fits.Goals as goal

pub returns : goal.returns
returns c = λ names decl step body inputs right taken.
    outcome_fits names (c.a_short_text_fits.ensures names) (c.a_list_of_what_fits_fits.ensures names) (c.a_whole_bean_fits.ensures names) decl step inputs taken body right
