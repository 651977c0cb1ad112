use Rattle.std.proofs.Common.{ap}
use Rattle.aft_records.specs.Reading.{found_id}
use Rattle.aft_records.proofs.ReadIds.{no_text}
use Rattle.aft_records.proofs.read_id.read_id.Goals as goal

pub returns-in-Err : goal.returns-in-Err
returns-in-Err c = ap found_id (no_text c.args.bytes.now c.in-Err.ensures.cases.0)
