use Rattle.std.proofs.Common.{arith, lit<}
use Rattle.aft_fields.proofs.Found.{cells_number}
use Rattle.aft_fields.proofs.table.Layout.row_from.Goals as goal

pub new-requires : goal.new-requires
new-requires g c =
    let number = cells_number 0 c.args.self.now.kinds c.in_ok-walk.walk (c.in_ok-cells.cells.items, c.in_ok-cells.walk) c.in_ok-cells.ensures in
    (lit< tt, rw c.from_vec.ensures (omega (arith, number)))
