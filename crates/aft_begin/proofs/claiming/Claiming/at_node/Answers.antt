use Rattle.std.proofs.Common.{sym, ◌∙◌}
use Rattle.aft_begin.specs.View.{ClaimView}
use Rattle.aft_begin.specs.declared.stage.Stage.TheVariants.{Begins, GivesUp, Runs}
use Rattle.aft_begin.proofs.OwnTurns.{at_node_so, node_never}
use Rattle.aft_begin.proofs.claiming.Claiming.at_node.Goals.{in-Begins, in-Runs, in-GivesUp, in_default}
use Rattle.aft_begin.proofs.claiming.Claiming.at_node.Goals as goal

pub returns-clause-steps : goal.returns-clause-steps
returns-clause-steps c may =
    let u : ClaimView = record { by = c.self.inside.by; node = c.self.inside.node; uuid = c.self.inside.uuid; aim = c.self.inside.aim; stage = c.self.inside.stage } in
    elim c.match-replace.branch [
      | in-Begins w ↦ at_node_so u c.args.self.now c.args.front c.args.node.now w.admit.new.node c.match-replace.node Begins w.admit.result _ c.self.view_is (sym c.replace.ensures.value ∙ w.in-Begins.is) w.node-is w.t-13-is c.requires.next (λ m. w.admit.ensures.steps) may
      | in-Runs w ↦ at_node_so u c.args.self.now c.args.front c.args.node.now w.run.new.node c.match-replace.node (Runs w.in-Runs.attempt) w.run.result _ c.self.view_is (sym c.replace.ensures.value ∙ w.in-Runs.is) w.node-is w.t-13-is c.requires.next w.run.ensures.steps may
      | in-GivesUp w ↦ at_node_so u c.args.self.now c.args.front c.args.node.now w.give_up.new.node c.match-replace.node (GivesUp w.in-GivesUp.attempt w.in-GivesUp.reply) w.give_up.result _ c.self.view_is (sym c.replace.ensures.value ∙ w.in-GivesUp.is) w.node-is w.t-13-is c.requires.next w.give_up.ensures.steps may
      | in_default w ↦ absurd (node_never u c.args.self.now c.args.node.now.number c.replace.result c.self.view_is (sym c.replace.ensures.value) c.requires.next w.in_default.not-Begins w.in_default.not-Runs w.in_default.not-GivesUp)
    ]
