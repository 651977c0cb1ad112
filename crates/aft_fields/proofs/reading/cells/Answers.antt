use Rattle.std.proofs.Common.{◌≡◌, ◌++◌, ◌∷◌, []}
use Rattle.std.proofs.lemmas.Result.{err_from_is_err_and}
use Rattle.aft_fields.proofs.Cells.{goes_on, ends, is_done}
use Rattle.aft_fields.proofs.reading.cells.Goals as goal

pub returns-in_err-cell : goal.returns-in_err-cell
returns-in_err-cell c =
    let p = err_from_is_err_and c.from_residual-in_err-cell.result c.from_residual-in_err-cell.ensures.1 in
    rw (p.1, p.2) (ends c.loop-field.cells.items c.args.kinds.now c.loop-field.field _ c.loop-field.rest _ c.in_err-cell.field-0.0 c.loop-field-test.true c.in_err-cell.ensures c.loop-field.invariant)

pub loop-field-preserved : goal.loop-field-preserved
loop-field-preserved c =
    let pushed : c.push.new.self.items ≡ c.loop-field.cells.items ++ c.in_ok-cell.cell ∷ [] = c.in_ok-push.ensures.items in
    rw pushed (goes_on c.loop-field.cells.items c.args.kinds.now c.loop-field.field _ c.loop-field.rest _ c.in_ok-cell.cell c.in_ok-cell.after c.loop-field-test.true c.in_ok-cell.ensures c.loop-field.invariant)

pub returns : goal.returns
returns c = is_done c.loop-field.cells.items c.args.kinds.now c.loop-field.field c.loop-field.rest _ c.loop-field-test.false c.loop-field.invariant
