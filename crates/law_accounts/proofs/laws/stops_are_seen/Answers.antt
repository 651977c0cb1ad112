use Rattle.law_accounts.proofs.StopsSeen.{stops_seen}
use Rattle.law_accounts.proofs.laws.stops_are_seen.Goals as goal

pub returns : goal.returns
returns c asked ran stand line node entry account may by follows front turned = stops_seen asked ran stand line node entry account may.among front turned
