use Rattle.std.proofs.Common.{◌≡◌, true, false, ap, sym, ◌∙◌}
use Rattle.aft_machine.specs.OneNode.{is_nowhere, is_over}
use Rattle.aft_step.proofs.Ends.{after_end, after_turn, its, runs, somewhere}
use Rattle.aft_step.proofs.client.Client.turn.Goals as goal
use Rattle.aft_step.specs.Worlds.{shown}

pub returns-in-Done-clause-goes : goal.returns-in-Done-clause-goes
returns-in-Done-clause-goes g c asked stand seats driven =
    let over : is_over c.turn.new.machine ≡ true = ap is_nowhere (sym c.next.ensures ∙ c.in-Done.is) in
    let before = shown c.args.world.now.door c.args.world.now.nodes c.args.world.now.boxes c.args.world.now.office in
    let after = shown c.turn.new.world.door c.turn.new.world.nodes c.turn.new.world.boxes c.turn.new.world.office in
    let runs_at = its asked stand seats before c.args.self.now c.in-Some.course driven c.in-Some.is in
    after_end asked stand seats before c.args.self.now c.in-Some.course driven c.in-Some.is after c.turn.new.machine
    (c.turn.ensures.turned asked stand seats runs_at.line c.args.self.now.hold runs_at.trail (runs asked stand seats before c.args.self.now c.in-Some.course driven c.in-Some.is)) c.hold-self.result c.hold-self.ensures.hold c.hold-self.ensures.own over

pub returns-in_default-next-clause-goes : goal.returns-in_default-next-clause-goes
returns-in_default-next-clause-goes g c asked stand seats driven =
    let over : is_over c.turn.new.machine ≡ false = ap is_nowhere (sym c.next.ensures) ∙ somewhere c.next.result c.in_default-next.not-Done in
    let before = shown c.args.world.now.door c.args.world.now.nodes c.args.world.now.boxes c.args.world.now.office in
    let after = shown c.turn.new.world.door c.turn.new.world.nodes c.turn.new.world.boxes c.turn.new.world.office in
    let runs_at = its asked stand seats before c.args.self.now c.in-Some.course driven c.in-Some.is in
    after_turn asked stand seats before c.args.self.now c.in-Some.course driven c.in-Some.is after c.turn.new.machine
    (c.turn.ensures.turned asked stand seats runs_at.line c.args.self.now.hold runs_at.trail (runs asked stand seats before c.args.self.now c.in-Some.course driven c.in-Some.is)) over
