use Rattle.std.proofs.Common.{◌≡◌, drop}
use Rattle.aft_fields.specs.Reading.{cells_at}
use Rattle.aft_fields.proofs.Texts.{with_front}
use Rattle.aft_fields.proofs.reading.cells.Given as goal

abbrev pub invariant-loop-field : goal.invariant-loop-field
invariant-loop-field l = with_front l.cells.items (cells_at l.field (drop l.field l.kinds) l.rest) ≡ cells_at 0 l.kinds l.fn.walk
