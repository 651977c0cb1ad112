use Rattle.std.proofs.Common.{ap, refl, subst, sym, ◌∙◌}
use Rattle.aft_model.specs.declared.reply.Reply.{Reply}
use Rattle.aft_model.specs.declared.reply.Reply.TheVariants as replies
use Rattle.aft_node.specs.declared.goes.BootEnd.TheVariants.{Refused}
use Rattle.aft_boot.specs.Booted.{made_at}
use Rattle.aft_boot.specs.declared.stage.Stage.{Stage}
use Rattle.aft_boot.specs.declared.stage.Stage.TheVariants.{ComesUp, Ends}
use Rattle.aft_boot.proofs.DoorTurns.{other_up, stops_there}
use Rattle.aft_turns.specs.Steps.{StepsAtDoor}
use Rattle.aft_boot.proofs.comings.come_up.Goals as goal

pub returns-then-is_other_up-clause-steps : goal.returns-then-is_other_up-clause-steps
returns-then-is_other_up-clause-steps g c may =
    subst (λ (s : Stage). StepsAtDoor c.args.by (made_at c.args.by c.args.node (ComesUp c.args.inc)) (made_at c.args.by c.args.node s) c.args.door.now.history c.args.door.now.history) (sym (c.stop.ensures ∙ ap (λ (r : Reply). Ends c.args.inc (Refused r)) c.down.ensures))
    (stops_there c.args.by c.args.node c.args.inc c.args.door.now.history c.args.door.now.history (replies.NodeDown c.args.node c.args.inc) refl (other_up c.args.by c.args.node c.args.inc c.args.door.now.history may (sym c.is_other_up.ensures ∙ c.if-is_other_up.true)))
