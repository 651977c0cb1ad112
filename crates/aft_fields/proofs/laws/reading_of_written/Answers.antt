use Rattle.aft_fields.proofs.Rows.{row_written}
use Rattle.aft_fields.proofs.laws.reading_of_written.Goals as goal

pub returns : goal.returns
returns c = row_written
