use Rattle.law_boots.proofs.Boot.{never_known, tried_never_known}
use Rattle.law_boots.proofs.laws.retired_before_is_never_known.Goals as goal

pub returns-clause-superseded : goal.returns-clause-superseded
returns-clause-superseded c node capacity inc t commits door history more entry lawful beside is sees superseded still = never_known node capacity inc commits door lawful history more entry beside is sees t superseded still

pub returns-clause-tried : goal.returns-clause-tried
returns-clause-tried c node capacity inc t commits door history more entry lawful beside backs of_node is sees its tried still = tried_never_known node capacity inc commits door lawful history more entry beside is backs of_node sees t its tried still
