use Rattle.std.proofs.Common.{◌≡◌, ◌∙◌}
use Rattle.std.specs.Vec.Iter.{into_iter_items}
use Rattle.aft_fields.proofs.Rows.{each_spelled}
use Rattle.aft_records.proofs.cells.Cells.of.Goals as goal

pub invariant_of-result : goal.invariant_of-result
invariant_of-result g c =
    let same : into_iter_items c.into_iter.result ≡ c.in_ok-row.row = c.into_iter.ensures.rest ∙ c.into_vec.ensures ∙ c.into_cells.ensures.cells in
    rw same (each_spelled c.args.table.now.kinds c.in_ok-row.row c.in_ok-row.ensures.found.0)
