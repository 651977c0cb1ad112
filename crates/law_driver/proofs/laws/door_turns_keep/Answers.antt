use Rattle.law_driver.proofs.Door.{acts, fronts_within, looks}
use Rattle.law_driver.proofs.laws.door_turns_keep.Goals as goal

pub returns-clause-acts : goal.returns-clause-acts
returns-clause-acts c asked ran stand line hold trail act driven legal bytes promises = acts asked ran stand line hold trail driven act legal bytes promises

pub returns-clause-looks : goal.returns-clause-looks
returns-clause-looks c asked ran stand line hold trail driven = looks asked ran stand line hold trail driven

pub returns-clause-fronts : goal.returns-clause-fronts
returns-clause-fronts c asked ran stand line hold trail driven = fronts_within asked ran stand line hold trail driven
