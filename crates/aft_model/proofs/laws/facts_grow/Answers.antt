use Rattle.aft_model.proofs.Growth.{committed_grows, marked_grows, superseded_grows, forgotten_grows}
use Rattle.aft_model.proofs.laws.facts_grow.Goals as goal

pub returns-clause-committed : goal.returns-clause-committed
returns-clause-committed c = committed_grows

pub returns-clause-marked : goal.returns-clause-marked
returns-clause-marked c = marked_grows

pub returns-clause-superseded : goal.returns-clause-superseded
returns-clause-superseded c = superseded_grows

pub returns-clause-forgotten : goal.returns-clause-forgotten
returns-clause-forgotten c = forgotten_grows
