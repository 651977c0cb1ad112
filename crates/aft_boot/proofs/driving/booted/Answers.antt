use Rattle.std.specs.Prelude.{Err, Ok}
use Rattle.aft_boot.proofs.FirstEnds.{comes_of_fresh}
use Rattle.aft_boot.proofs.driving.booted.Goals as goal

pub returns-in-Ok-clause-booted : goal.returns-in-Ok-clause-booted
returns-in-Ok-clause-booted g c =
    comes_of_fresh c.args.door.now.history c.args.cache c.args.lines c.args.number c.in_ok-node.node.capacity c.in_ok-node.node.room c.drive.new.node c.drive.new.door.history c.in_ok-node.ensures.capacity c.in_ok-node.ensures.room
    c.drive.ensures.drives c.law.ensures.legal c.law_legal.ensures.legal (Ok c.in-Ok.field-0) c.in-Ok.ensures

pub returns-in-Err-clause-booted : goal.returns-in-Err-clause-booted
returns-in-Err-clause-booted g c =
    comes_of_fresh c.args.door.now.history c.args.cache c.args.lines c.args.number c.in_ok-node.node.capacity c.in_ok-node.node.room c.drive.new.node c.drive.new.door.history c.in_ok-node.ensures.capacity c.in_ok-node.ensures.room
    c.drive.ensures.drives c.law.ensures.legal c.law_legal.ensures.legal (Err c.in-Err.fault) c.in-Err.ensures
