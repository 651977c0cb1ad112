use Rattle.law_damage.proofs.Told.{missed_by_gets, told_of_versions}
use Rattle.law_damage.proofs.laws.damage_is_told_of_versions_alone.Goals as goal

pub returns-clause-damaged : goal.returns-clause-damaged
returns-clause-damaged x = told_of_versions

pub returns-clause-missing : goal.returns-clause-missing
returns-clause-missing x = missed_by_gets
