use Rattle.law_attempts.proofs.Newest.{booting_newest, serving_newest}
use Rattle.law_attempts.proofs.laws.serving_is_newest.Goals as goal

pub returns-clause-serves : goal.returns-clause-serves
returns-clause-serves c = serving_newest

pub returns-clause-boots : goal.returns-clause-boots
returns-clause-boots c = booting_newest
