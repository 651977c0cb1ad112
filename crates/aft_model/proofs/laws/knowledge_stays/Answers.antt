use Rattle.aft_model.proofs.Growth.{any_grows, unused_grows, stored_grows, knows_superseded_grows, knows_marked_grows, record_gone_grows, short_grows, short_of_grows, orphan_grows, versions_gone_grows}
use Rattle.aft_model.specs.DoorKnowledge.{opens}
use Rattle.aft_model.proofs.laws.knowledge_stays.Goals as goal

pub returns-clause-opened : goal.returns-clause-opened
returns-clause-opened c = any_grows (λ entry. opens entry.act)

pub returns-clause-unused : goal.returns-clause-unused
returns-clause-unused c = unused_grows

pub returns-clause-stored : goal.returns-clause-stored
returns-clause-stored c = stored_grows

pub returns-clause-superseded : goal.returns-clause-superseded
returns-clause-superseded c = knows_superseded_grows

pub returns-clause-marked : goal.returns-clause-marked
returns-clause-marked c = knows_marked_grows

pub returns-clause-record_gone : goal.returns-clause-record_gone
returns-clause-record_gone c = record_gone_grows

pub returns-clause-versions_gone : goal.returns-clause-versions_gone
returns-clause-versions_gone c = versions_gone_grows

pub returns-clause-short : goal.returns-clause-short
returns-clause-short c = short_grows

pub returns-clause-short_of : goal.returns-clause-short_of
returns-clause-short_of c = short_of_grows

pub returns-clause-orphan : goal.returns-clause-orphan
returns-clause-orphan c = orphan_grows
