use Rattle.std.proofs.Common.{sym}
use Rattle.aft_audit.proofs.Search.{found_at}
use Rattle.aft_audit.proofs.pairs.bytes_under.Goals as goal

pub returns-in-Some : goal.returns-in-Some
returns-in-Some c = sym (found_at c.args.name.now c.args.pairs.now c.in-Some.place c.index-pairs-place.result c.requires c.in-Some.ensures.found)
