use Rattle.aft_step.proofs.DoorTurn.{may_call, turned}
use Rattle.aft_step.proofs.turns.door_turn.Goals as goal

pub at_door-requires-clause-open : goal.at_door-requires-clause-open
at_door-requires-clause-open g c = (may_call c.requires.runs.0 c.requires.runs.1 c.requires.runs.2 _ c.requires.runs.3 c.requires.runs.4 c.args.machine.now c.args.now c.requires.runs.5 c.requires.runs.6 c.promises.ensures.aims c.requires.next).3

pub at_door-requires-clause-storable : goal.at_door-requires-clause-storable
at_door-requires-clause-storable g c = (may_call c.requires.runs.0 c.requires.runs.1 c.requires.runs.2 _ c.requires.runs.3 c.requires.runs.4 c.args.machine.now c.args.now c.requires.runs.5 c.requires.runs.6 c.promises.ensures.aims c.requires.next).0

pub at_door-requires-clause-knows : goal.at_door-requires-clause-knows
at_door-requires-clause-knows g c = (may_call c.requires.runs.0 c.requires.runs.1 c.requires.runs.2 _ c.requires.runs.3 c.requires.runs.4 c.args.machine.now c.args.now c.requires.runs.5 c.requires.runs.6 c.promises.ensures.aims c.requires.next).1

pub returns-clause-turned : goal.returns-clause-turned
returns-clause-turned g c asked stand seats line hold trail r =
    turned asked stand seats _ line hold c.args.machine.now c.args.now trail r c.promises.ensures.aims c.requires.next _ c.law_legal.ensures.legal c.law_legal.ensures.bytes c.at_door.new.self c.at_door.ensures.by c.at_door.ensures.command (c.at_door.ensures.held hold) c.at_door.ensures.steps
    (λ time path told made. c.promises-2.ensures.promises hold asked.settings.cache time asked.clock path (c.at_door.ensures.held hold r.goes.held) told made)
    (λ time path made done. c.promises-2.ensures.answers asked.settings.cache time path made done)
    (λ time path view made ran left. c.promises.ensures.unanswered hold asked.settings.cache time path view r.goes.held made ran left)
    c.promises.ensures.going
