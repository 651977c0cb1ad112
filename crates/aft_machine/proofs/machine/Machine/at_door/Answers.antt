use Rattle.std.proofs.Common.{sym, subst}
use Rattle.aft_turns.specs.Steps.{FrontsWithin, StepsAtDoor}
use Rattle.aft_machine.specs.Asks.{MayCall}
use Rattle.aft_machine.specs.OneNode.{by_of, made_of}
use Rattle.aft_machine.specs.declared.machine.Machine.{Machine}
use Rattle.aft_machine.specs.declared.machine.Machine.TheVariants.{Crash, Finish, Read, Start}
use Rattle.aft_machine.proofs.Promised.{with_fronts}
use Rattle.aft_machine.proofs.machine.Machine.at_door.Goals as goal

pub returns-in-Read-clause-steps : goal.returns-in-Read-clause-steps
returns-in-Read-clause-steps g c capacity clock =
    subst (λ (m : Machine). MayCall m c.args.door.now.history → StepsAtDoor (by_of m) (λ trail. made_of capacity clock m trail × FrontsWithin c.args.door.now.history trail.turns) (made_of capacity clock (Read c.at_door-in-Read.new.self)) c.args.door.now.history c.at_door-in-Read.new.door.history) (sym c.in-Read.is) (λ may.
    with_fronts c.in-Read.line.by (made_of capacity clock (Read c.in-Read.line)) (made_of capacity clock (Read c.at_door-in-Read.new.self)) c.args.door.now.history c.at_door-in-Read.new.door.history (c.at_door-in-Read.ensures.steps capacity may))

pub returns-in-Finish-clause-steps : goal.returns-in-Finish-clause-steps
returns-in-Finish-clause-steps g c capacity clock =
    subst (λ (m : Machine). MayCall m c.args.door.now.history → StepsAtDoor (by_of m) (λ trail. made_of capacity clock m trail × FrontsWithin c.args.door.now.history trail.turns) (made_of capacity clock (Finish c.at_door-in-Finish.new.self)) c.args.door.now.history c.at_door-in-Finish.new.door.history) (sym c.in-Finish.is) (λ may.
    with_fronts c.in-Finish.line.by (made_of capacity clock (Finish c.in-Finish.line)) (made_of capacity clock (Finish c.at_door-in-Finish.new.self)) c.args.door.now.history c.at_door-in-Finish.new.door.history (c.at_door-in-Finish.ensures.steps clock may))

pub returns-in-Crash-clause-steps : goal.returns-in-Crash-clause-steps
returns-in-Crash-clause-steps g c capacity clock =
    subst (λ (m : Machine). MayCall m c.args.door.now.history → StepsAtDoor (by_of m) (λ trail. made_of capacity clock m trail × FrontsWithin c.args.door.now.history trail.turns) (made_of capacity clock (Crash c.at_door-in-Crash.new.self c.in-Crash.field-1)) c.args.door.now.history c.at_door-in-Crash.new.door.history) (sym c.in-Crash.is) (λ may.
    with_fronts c.in-Crash.line.by (made_of capacity clock (Crash c.in-Crash.line c.in-Crash.field-1)) (made_of capacity clock (Crash c.at_door-in-Crash.new.self c.in-Crash.field-1)) c.args.door.now.history c.at_door-in-Crash.new.door.history c.at_door-in-Crash.ensures.steps)

pub returns-in-Start-clause-steps : goal.returns-in-Start-clause-steps
returns-in-Start-clause-steps g c capacity clock =
    subst (λ (m : Machine). MayCall m c.args.door.now.history → StepsAtDoor (by_of m) (λ trail. made_of capacity clock m trail × FrontsWithin c.args.door.now.history trail.turns) (made_of capacity clock (Start c.at_door-in-Start.new.self c.in-Start.field-1)) c.args.door.now.history c.at_door-in-Start.new.door.history) (sym c.in-Start.is) (λ may.
    with_fronts c.in-Start.line.by (made_of capacity clock (Start c.in-Start.line c.in-Start.field-1)) (made_of capacity clock (Start c.at_door-in-Start.new.self c.in-Start.field-1)) c.args.door.now.history c.at_door-in-Start.new.door.history (c.at_door-in-Start.ensures.steps may))
