use Rattle.aft_model.proofs.Choices.{fitting_stays}
use Rattle.aft_select.proofs.Repeats.{chosen_fits, fits_written}
use Rattle.aft_select.proofs.laws.chosen_keeps_reads_atomic.Goals as goal

pub returns-clause-written : goal.returns-clause-written
returns-clause-written c key id reads known is = fits_written key id reads known (chosen_fits key id reads known is)

pub returns-clause-atomic : goal.returns-clause-atomic
returns-clause-atomic c key id reads known atomic is = fitting_stays reads known atomic key id (chosen_fits key id reads known is)
