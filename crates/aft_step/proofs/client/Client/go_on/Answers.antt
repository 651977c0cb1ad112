use Rattle.std.proofs.Common.{◌<◌, ℕ, sym, subst, ◌∙◌}
use Rattle.std.proofs.lemmas.Bool.{true≢false}
use Rattle.aft_step.proofs.Courses.{goes_on, moves_on}
use Rattle.aft_step.proofs.client.Client.go_on.Goals as goal
use Rattle.aft_step.specs.Worlds.{shown}

pub turn-requires-clause-stands : goal.turn-requires-clause-stands
turn-requires-clause-stands g c =
    let it = c.requires.stands in
    let begun = c.ready.ensures.goes it.0 it.1 it.2 (shown c.args.world.now.door c.args.world.now.nodes c.args.world.now.boxes c.args.world.now.office) it.3 it.4 it.5 it.6 in
    (it.0, begun.later, begun.now, begun.driven)

pub run_out-requires-clause-stands : goal.run_out-requires-clause-stands
run_out-requires-clause-stands g c =
    let it = c.requires.stands in
    let begun = c.ready.ensures.goes it.0 it.1 it.2 (shown c.args.world.now.door c.args.world.now.nodes c.args.world.now.boxes c.args.world.now.office) it.3 it.4 it.5 it.6 in
    let moves = c.turn.ensures.goes it.0 begun.later begun.now begun.driven in
    (it.0, moves.later, moves.now, moves.driven)

pub returns-then-whole-clause-goes : goal.returns-then-whole-clause-goes
returns-then-whole-clause-goes g c asked stand seats is clock driven next =
    let before = shown c.args.world.now.door c.args.world.now.nodes c.args.world.now.boxes c.args.world.now.office in
    let between = shown c.turn.new.world.door c.turn.new.world.nodes c.turn.new.world.boxes c.turn.new.world.office in
    let after = shown c.run_out.new.world.door c.run_out.new.world.nodes c.run_out.new.world.boxes c.run_out.new.world.office in
    let begun = c.ready.ensures.goes asked stand seats before is clock driven next in
    let moves = c.turn.ensures.goes asked begun.later begun.now begun.driven in
    goes_on asked stand seats c.args.self.now before c.ready.new.self begun c.ready.ensures.number c.args.whole after c.run_out.new.self
    (moves_on asked begun.later begun.now c.ready.new.self between c.turn.new.self moves c.turn.ensures.number after c.run_out.new.self (c.run_out.ensures.goes asked moves.later moves.now moves.driven)) (λ whole. c.run_out.ensures.over)

pub returns-then-whole-clause-past : goal.returns-then-whole-clause-past
returns-then-whole-clause-past g c i line whole there its from none = subst (λ (at : ℕ). i < at) (sym (c.run_out.ensures.reach ∙ c.turn.ensures.reach)) (c.ready.ensures.past i line there its from none)

pub returns-else-whole-clause-goes : goal.returns-else-whole-clause-goes
returns-else-whole-clause-goes g c asked stand seats is clock driven next =
    let before = shown c.args.world.now.door c.args.world.now.nodes c.args.world.now.boxes c.args.world.now.office in
    let after = shown c.turn.new.world.door c.turn.new.world.nodes c.turn.new.world.boxes c.turn.new.world.office in
    let begun = c.ready.ensures.goes asked stand seats before is clock driven next in
    goes_on asked stand seats c.args.self.now before c.ready.new.self begun c.ready.ensures.number c.args.whole after c.turn.new.self (c.turn.ensures.goes asked begun.later begun.now begun.driven) (λ whole. absurd (true≢false (sym whole ∙ c.if-whole.false)))
