use Rattle.aft_select.proofs.Named.{conflicts, each_has_one}
use Rattle.aft_select.proofs.laws.none_fits_names_each.Goals as goal

pub returns-clause-each : goal.returns-clause-each
returns-clause-each c = each_has_one

pub returns-clause-conflicts : goal.returns-clause-conflicts
returns-clause-conflicts c key reads known blocked is = conflicts reads known key blocked is
