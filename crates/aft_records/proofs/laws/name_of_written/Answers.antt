use Rattle.aft_records.proofs.NameWritten.{name_written}
use Rattle.aft_records.proofs.laws.name_of_written.Goals as goal

pub returns : goal.returns
returns c = name_written
