use Rattle.law_holders.proofs.Own.{others_keep, uuids_keep}
use Rattle.law_holders.proofs.laws.others_stay.Goals as goal

pub returns-clause-incarnations : goal.returns-clause-incarnations
returns-clause-incarnations c position act who uuid before own other = others_keep position act own who uuid before other

pub returns-clause-uuids : goal.returns-clause-uuids
returns-clause-uuids c position act who uuid before own is its other = uuids_keep position uuid is its other act own who before
