use Rattle.aft_step.proofs.NodeAfter.{turned}
use Rattle.aft_step.proofs.NodeTurn.{asks_node, place}
use Rattle.aft_step.proofs.turns.node_turn.Goals as goal

pub at_node-requires-clause-low : goal.at_node-requires-clause-low
at_node-requires-clause-low g c = place c.requires.runs.0 c.requires.runs.1 c.requires.runs.2 _ c.requires.runs.3 c.requires.runs.4 c.args.machine.now c.args.now c.requires.runs.5 c.requires.runs.6 c.args.number c.requires.next

pub at_node-requires-clause-node : goal.at_node-requires-clause-node
at_node-requires-clause-node g c = asks_node c.requires.runs.0 c.requires.runs.1 c.requires.runs.2 _ c.requires.runs.3 c.requires.runs.4 c.args.machine.now c.args.now c.requires.runs.5 c.requires.runs.6 c.args.number c.requires.next c.promises.ensures.aims

pub returns-clause-turned : goal.returns-clause-turned
returns-clause-turned g c asked stand seats line hold trail r =
    let asks = asks_node asked stand seats _ line hold c.args.machine.now c.args.now trail r c.args.number c.requires.next c.promises.ensures.aims in
    let steps = c.at_node.ensures.steps asks.0 asks.1 in
    turned asked stand seats _ line hold c.args.machine.now c.args.now trail r c.promises.ensures.aims c.args.number c.requires.next asks.0 asks.1 steps.0 c.at_node.new.nodes steps.1 steps.2 c.at_node.new.machine c.at_node.ensures.by c.at_node.ensures.command (c.at_node.ensures.held hold) c.len-front.result c.len-front.ensures steps.3
    (λ time next told made. c.promises-2.ensures.promises hold asked.settings.cache time asked.clock next (c.at_node.ensures.held hold r.goes.held) told made)
    (λ time next view made ran left. c.promises-2.ensures.unanswered hold asked.settings.cache time next view (c.at_node.ensures.held hold r.goes.held) made ran left)
    c.promises-2.ensures.going c.promises-2.ensures.aims
    (λ time next made done. c.promises-2.ensures.gives asked.settings.cache time next made done)
