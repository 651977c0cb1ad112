use Rattle.aft_door.proofs.Changed.{uuid_passes}
use Rattle.aft_door.proofs.door.puts.uuid_fits.Goals as goal

pub returns : goal.returns
returns c = uuid_passes c.args.uuid.now c.uuid_bytes.ensures.bytes
