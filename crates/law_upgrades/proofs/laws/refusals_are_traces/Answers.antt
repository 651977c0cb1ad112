use Rattle.law_upgrades.proofs.Traces.{refused_shut, shut_end, shut_trace}
use Rattle.law_upgrades.proofs.laws.refusals_are_traces.Goals as goal

pub returns-clause-trace : goal.returns-clause-trace
returns-clause-trace c fault history why legal has_bytes = shut_trace history legal (refused_shut fault history why) has_bytes

pub returns-clause-end : goal.returns-clause-end
returns-clause-end c fault history why legal has_bytes = shut_end history legal (refused_shut fault history why)
