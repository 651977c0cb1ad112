use Rattle.law_names.proofs.Tests.{uuid_is}
use Rattle.law_whole.proofs.There.{clear_finds_none, put_finds_own}
use Rattle.law_whole.proofs.laws.settled_rightly.Goals as goal

pub returns-clause-clear : goal.returns-clause-clear
returns-clause-clear c uuid history entry node inc names bytes is lawful opened held clear gets = clear_finds_none uuid (uuid_is uuid is) history entry opened lawful node inc bytes held gets names clear

pub returns-clause-put : goal.returns-clause-put
returns-clause-put c uuid history entry node inc d bytes is lawful opened held put gets = put_finds_own uuid (uuid_is uuid is) history entry opened lawful node inc bytes held gets d put
