use Rattle.law_rounds.proofs.Copies.{backup_led}
use Rattle.law_rounds.proofs.laws.copies_lead.Goals as goal

pub returns : goal.returns
returns c nodes ends line = backup_led nodes ends line
