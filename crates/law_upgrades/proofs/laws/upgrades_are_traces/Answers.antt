use Rattle.law_upgrades.proofs.Traces.{tells_end, upgrade_finished, upgrade_trace}
use Rattle.law_upgrades.proofs.laws.upgrades_are_traces.Goals as goal

pub returns-clause-trace : goal.returns-clause-trace
returns-clause-trace c commits result opened history audit upgrade legal has_bytes = upgrade_trace commits opened history audit legal has_bytes result upgrade

pub returns-clause-finished : goal.returns-clause-finished
returns-clause-finished c commits puts opened history audit upgrade legal has_bytes = upgrade_finished commits opened history audit legal has_bytes puts upgrade

pub returns-clause-end : goal.returns-clause-end
returns-clause-end c commits result opened history audit upgrade legal has_bytes = tells_end commits opened history audit legal has_bytes result upgrade
