use Rattle.law_held.proofs.Numbered.{numbered_differ}
use Rattle.law_held.proofs.laws.numbered_lines_differ.Goals as goal

pub returns : goal.returns
returns c = numbered_differ
