use Rattle.aft_model.proofs.Choices.{fitting_stays, absent_stays}
use Rattle.aft_model.proofs.node_laws.reads_stay_atomic.Goals as goal

pub returns-clause-fitting : goal.returns-clause-fitting
returns-clause-fitting c key id reads known atomic = fitting_stays reads known atomic key id

pub returns-clause-absent : goal.returns-clause-absent
returns-clause-absent c key reads known atomic = absent_stays reads known atomic key
