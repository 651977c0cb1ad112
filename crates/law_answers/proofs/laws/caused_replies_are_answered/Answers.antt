use Rattle.law_answers.proofs.Legal.{caused_answered}
use Rattle.law_answers.proofs.laws.caused_replies_are_answered.Goals as goal

pub returns : goal.returns
returns c asked ran line other legal asks exact caused = caused_answered asked ran line other legal asks exact caused
