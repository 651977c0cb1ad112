use Rattle.law_driver.proofs.Others.{stays}
use Rattle.law_driver.proofs.laws.others_stay.Goals as goal

pub returns : goal.returns
returns c asked ran stand later line other hold trail added driven may by differs apart account may_still runs ranked = stays asked ran stand later line other hold trail added driven may by differs apart account may_still runs ranked
