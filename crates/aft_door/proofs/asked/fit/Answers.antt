use Rattle.aft_door.proofs.Changed.{bytes_pass}
use Rattle.aft_door.proofs.asked.fit.Goals as goal

pub returns : goal.returns
returns c = bytes_pass c.args.bytes.now c.in_range.ensures
