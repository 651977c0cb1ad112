use Rattle.law_reads.proofs.Served.{absent_kept, gets_again, version_kept}
use Rattle.law_reads.proofs.laws.gets_repeat.Goals as goal

pub returns-clause-again : goal.returns-clause-again
returns-clause-again c node capacity inc a key id history legal real serve there = gets_again node capacity inc history legal real serve a there key id

pub returns-clause-version : goal.returns-clause-version
returns-clause-version c node capacity inc a key id read history legal real serve there = version_kept node capacity inc history legal real serve a there key id read

pub returns-clause-absent : goal.returns-clause-absent
returns-clause-absent c node capacity inc a key read history legal real serve there = absent_kept node capacity inc history legal real serve a there key read
