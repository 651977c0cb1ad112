use Rattle.std.proofs.Common.{take}
use Rattle.law_boots.proofs.Known.{brought, known_at}
use Rattle.law_boots.proofs.Real.{found, is_committed}
use Rattle.law_reads.specs.Brings.{brings}
use Rattle.aft_model.specs.Known.{known}
use Rattle.law_boots.proofs.laws.known_is_committed.Goals as goal

pub returns-clause-brought : goal.returns-clause-brought
returns-clause-brought c node capacity x door history entry beside among =
    is_committed x (take entry.front door) (brought node capacity door history entry beside x (found node capacity door x (brings entry.act) among))

pub returns-clause-known : goal.returns-clause-known
returns-clause-known c node capacity x door history entry beside among =
    is_committed x (take entry.front door) (known_at node capacity door history entry beside x (found node capacity door x (known history) among))
