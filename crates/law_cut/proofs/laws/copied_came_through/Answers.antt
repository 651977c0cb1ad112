use Rattle.law_cut.proofs.Answered.{came_through}
use Rattle.law_cut.proofs.laws.copied_came_through.Goals as goal

pub returns : goal.returns
returns x asked ran line taken marked legal listed among = came_through asked ran line taken marked legal listed among
