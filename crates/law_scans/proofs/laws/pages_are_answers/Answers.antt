use Rattle.law_scans.proofs.Answered.{pages_answered}
use Rattle.law_scans.proofs.laws.pages_are_answers.Goals as goal

pub returns : goal.returns
returns c who by prefix history = pages_answered who by prefix history
