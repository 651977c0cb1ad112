use Rattle.law_driver.proofs.Begin.{begins}
use Rattle.law_driver.proofs.laws.lines_begin.Goals as goal

pub returns : goal.returns
returns c asked ran stand line hold account may waits kind held ranked = begins asked ran stand line account may waits hold kind held ranked
