use Rattle.std.proofs.Common.{ℕ, subst}
use Rattle.aft_boot.specs.Booted.{Made}
use Rattle.aft_boot.proofs.Drives.{steps_at_door, steps_at_node}
use Rattle.aft_boot.proofs.Premises.{cause_at_door, has_room, may_call_now, may_close_now, may_end_now}
use Rattle.aft_turns.specs.Steps.{StepsAtNode}
use Rattle.aft_boot.proofs.driving.step.Goals as goal

pub at_node-requires-clause-room : goal.at_node-requires-clause-room
at_node-requires-clause-room g c =
    let d = c.requires.drives in
    has_room d.0 d.1 d.2 c.args.boot.now c.args.node.now c.args.door.now.history d.3 c.in-Node.field-0 c.args.boot.now.stage d.3.made c.in-Node.ensures

pub at_node-requires-clause-own : goal.at_node-requires-clause-own
at_node-requires-clause-own g c =
    let d = c.requires.drives in
    may_close_now d.0 d.1 d.2 c.args.boot.now c.args.node.now c.args.door.now.history d.3 c.args.boot.now.stage d.3.made

pub returns-in-Node-clause-drives : goal.returns-in-Node-clause-drives
returns-in-Node-clause-drives g c start capacity lines drives =
    steps_at_node start capacity lines c.args.boot.now c.at_node.new.self c.args.node.now c.args.door.now.history c.at_node.ensures.by c.at_node.ensures.node drives c.at_node.new.node
    (subst (λ (n : ℕ). StepsAtNode c.args.boot.now.by n (Made c.args.boot.now) (Made c.at_node.new.self) c.args.node.now c.at_node.new.node) c.len.ensures (c.at_node.ensures.steps (may_end_now start capacity lines c.args.boot.now c.args.node.now c.args.door.now.history drives c.args.boot.now.stage drives.made)))

pub returns-in-Door-clause-drives : goal.returns-in-Door-clause-drives
returns-in-Door-clause-drives g c start capacity lines drives =
    steps_at_door start capacity lines c.args.boot.now c.at_door.new.self c.args.node.now c.args.door.now.history c.at_door.ensures.by c.at_door.ensures.node drives c.at_door.new.door.history
    (c.at_door.ensures.steps (may_call_now start capacity lines c.args.boot.now c.args.node.now c.args.door.now.history drives c.law.ensures.legal c.args.boot.now.stage drives.made))

pub returns-in-Door-clause-cause : goal.returns-in-Door-clause-cause
returns-in-Door-clause-cause g c =
    let d = c.requires.drives in
    cause_at_door c.args.boot.now c.at_door.new.self d.3.trail c.args.door.now.history c.at_door.new.door.history c.args.door.now.faults c.at_door.new.door.faults d.3.made
    (c.at_door.ensures.steps (may_call_now d.0 d.1 d.2 c.args.boot.now c.args.node.now c.args.door.now.history d.3 c.law.ensures.legal c.args.boot.now.stage d.3.made))
    c.at_door.ensures.cause
