use Rattle.law_scans.proofs.Tells.{possible, there, absent}
use Rattle.law_scans.proofs.laws.pages_tell.Goals as goal

pub returns-clause-possible : goal.returns-clause-possible
returns-clause-possible c name prefix after node inc limit by pairs history more = possible name prefix after node inc limit by pairs history more

pub returns-clause-there : goal.returns-clause-there
returns-clause-there c name bytes prefix after node inc limit by pairs history more = there name prefix after node inc limit by pairs history more bytes

pub returns-clause-absent : goal.returns-clause-absent
returns-clause-absent c name prefix after node inc limit by pairs history more = absent name prefix after node inc limit by pairs history more
