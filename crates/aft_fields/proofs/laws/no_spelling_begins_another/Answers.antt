use Rattle.aft_fields.proofs.Rows.{rows_apart}
use Rattle.aft_fields.proofs.laws.no_spelling_begins_another.Goals as goal

pub returns : goal.returns
returns c = rows_apart
