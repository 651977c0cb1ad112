use Rattle.law_refused.proofs.Leaves.{refused_closed, upgrade_closed}
use Rattle.law_refused.proofs.laws.used_ids_stay_closed.Goals as goal

pub returns-clause-refused : goal.returns-clause-refused
returns-clause-refused c asked ran at_first trace honest contents = refused_closed asked ran at_first trace honest contents

pub returns-clause-upgrade : goal.returns-clause-upgrade
returns-clause-upgrade c ran at_first trace honest contents = upgrade_closed ran at_first trace honest contents
