use Rattle.aft_model.proofs.Incarnations.{greatest_stays, superseded_stays_unknown, pinned_is_known, pinned_stays}
use Rattle.aft_model.proofs.node_laws.known_within_incarnation.Goals as goal

pub returns-clause-greatest_stays : goal.returns-clause-greatest_stays
returns-clause-greatest_stays c node capacity inc key history more legal serve still = greatest_stays node capacity inc history more legal serve still key

pub returns-clause-pinned_is_known : goal.returns-clause-pinned_is_known
returns-clause-pinned_is_known c = pinned_is_known

pub returns-clause-pinned_stays : goal.returns-clause-pinned_stays
returns-clause-pinned_stays c = pinned_stays

pub returns-clause-superseded_stays_unknown : goal.returns-clause-superseded_stays_unknown
returns-clause-superseded_stays_unknown c node capacity inc d history more legal serve still = superseded_stays_unknown node capacity inc history more legal serve still d
