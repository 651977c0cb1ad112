use Rattle.std.proofs.Common.{subst, sym}
use Rattle.aft_begin.specs.declared.stage.Stage.TheVariants.{Seeks}
use Rattle.aft_begin.proofs.DoorSteps.{DoorStep, look_step}
use Rattle.aft_begin.proofs.doors.seeks.Goals as goal

pub returns-clause-steps : goal.returns-clause-steps
returns-clause-steps g c node may =
    subst (DoorStep c.args.aim c.args.by node c.args.uuid c.args.attempt c.args.door.now.history c.look-looked.new.door.history (Seeks c.args.attempt c.args.sought)) (sym c.behind.ensures.leads)
    (look_step c.args.by node c.args.uuid c.args.attempt c.args.door.now.history c.look-looked.new.door.history c.args.aim c.args.sought c.look-looked.result (c.look-looked.ensures.looks may))
