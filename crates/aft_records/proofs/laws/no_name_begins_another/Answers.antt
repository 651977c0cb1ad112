use Rattle.aft_records.proofs.NameWritten.{names_apart}
use Rattle.aft_records.proofs.laws.no_name_begins_another.Goals as goal

pub returns : goal.returns
returns c = names_apart
