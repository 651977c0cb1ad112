use Rattle.aft_fields.proofs.Rows.{each_spelled}
use Rattle.aft_fields.proofs.table.Layout.write.Goals as goal

pub put_cells-requires : goal.put_cells-requires
put_cells-requires g c = rw c.cells.ensures.cells (each_spelled c.args.self.now.kinds c.args.row.now c.requires.of_table)
