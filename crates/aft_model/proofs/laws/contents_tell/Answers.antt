use Rattle.aft_model.proofs.Followed.{joined, parted}
use Rattle.aft_model.proofs.Told.{told_honest}
use Rattle.aft_model.proofs.laws.contents_tell.Goals as goal

pub returns-clause-honest : goal.returns-clause-honest
returns-clause-honest c = told_honest

pub returns-clause-joined : goal.returns-clause-joined
returns-clause-joined c = joined

pub returns-clause-parted : goal.returns-clause-parted
returns-clause-parted c = parted
