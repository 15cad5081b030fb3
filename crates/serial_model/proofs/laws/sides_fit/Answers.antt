use Rattle.serial_model.proofs.SideLaws.{fit_is_kept, ask_of_fit_is_below, none_fits_each}
use Rattle.serial_model.proofs.laws.sides_fit.Goals as goal

pub returns-clause-kept : goal.returns-clause-kept
returns-clause-kept c = fit_is_kept

pub returns-clause-below : goal.returns-clause-below
returns-clause-below c = ask_of_fit_is_below

pub returns-clause-none : goal.returns-clause-none
returns-clause-none c = none_fits_each
