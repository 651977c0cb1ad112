use Rattle.law_kept.proofs.Always.{lawful_begins}
use Rattle.law_whole.proofs.laws.beginnings_are_lawful.Goals as goal

pub returns : goal.returns
returns c history more lawful = lawful_begins history more lawful
