use Rattle.std.proofs.Common.{refl, subst, sym, ◌<◌}
use Rattle.std.specs.Prelude.{IsTrue}
use Rattle.aft_boot.specs.Booted.{made_at, told_fault_at}
use Rattle.aft_boot.specs.BootView.{Fits, left_at}
use Rattle.aft_boot.specs.declared.stage.Stage.{Stage}
use Rattle.aft_boot.specs.declared.stage.Stage.TheVariants.{ComesUp}
use Rattle.aft_boot.proofs.DoorTurns.{ups_so}
use Rattle.aft_boot.proofs.DoorTurns as turns
use Rattle.aft_boot.proofs.Leading.{up_fits, up_left, up_works}
use Rattle.aft_door.specs.Entries.{came_up}
use Rattle.aft_model.specs.Membership.{up_now}
use Rattle.aft_turns.specs.Steps.{StepsAtDoor}
use Rattle.aft_boot.proofs.comings.up.Goals as goal

pub returns-clause-left : goal.returns-clause-left
returns-clause-left g c = subst (λ (s : Stage). left_at s < 315) (sym c.behind.ensures) (up_left c.args.node c.args.inc c.up-told.result)

pub returns-clause-fits : goal.returns-clause-fits
returns-clause-fits g c = subst Fits (sym c.behind.ensures) (up_fits c.args.node c.args.inc c.up-told.result)

pub returns-clause-works : goal.returns-clause-works
returns-clause-works g c is = up_works c.args.node c.args.inc c.args.door.now.history c.up-told.result c.up-told.ensures.refused (subst (λ (s : Stage). IsTrue (told_fault_at s)) c.behind.ensures is)

pub returns-clause-faults : goal.returns-clause-faults
returns-clause-faults g c = (turns.same_store c.args.door.now c.up-told.new.self (up_now c.args.node c.args.door.now.history) c.args.inc (came_up c.args.by c.args.node c.args.inc) c.up-told.result c.requires.alone c.up-told.ensures.again c.up-told.ensures.ok c.up-told.ensures.err).1

pub returns-clause-store : goal.returns-clause-store
returns-clause-store g c = (turns.same_store c.args.door.now c.up-told.new.self (up_now c.args.node c.args.door.now.history) c.args.inc (came_up c.args.by c.args.node c.args.inc) c.up-told.result c.requires.alone c.up-told.ensures.again c.up-told.ensures.ok c.up-told.ensures.err).0

pub returns-clause-steps : goal.returns-clause-steps
returns-clause-steps g c may =
    subst (λ (s : Stage). StepsAtDoor c.args.by (made_at c.args.by c.args.node (ComesUp c.args.inc)) (made_at c.args.by c.args.node s) c.args.door.now.history c.up-told.new.self.history) (sym c.behind.ensures)
    (ups_so c.args.by c.args.node c.args.inc c.args.door.now.history c.requires.node c.args.door.now c.up-told.new.self refl may c.up-told.result c.requires.alone c.up-told.ensures.refused c.up-told.ensures.again c.up-told.ensures.ok c.up-told.ensures.err)
