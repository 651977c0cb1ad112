use Rattle.law_driven_starts.proofs.OwnBoots.{boots_own}
use Rattle.law_driven_starts.proofs.laws.boots_are_ended_by_their_lines.Goals as goal

pub returns : goal.returns
returns c asked ran stand account number = boots_own number asked ran stand account
