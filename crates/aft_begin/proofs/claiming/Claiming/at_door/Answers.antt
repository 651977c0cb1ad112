use Rattle.std.proofs.Common.{sym, ◌∙◌}
use Rattle.aft_begin.specs.View.{ClaimView}
use Rattle.aft_begin.specs.declared.stage.Stage.TheVariants.{Claims, Forgets, LetsGo, Seeks}
use Rattle.aft_begin.proofs.OwnTurns.{at_door_so, door_never}
use Rattle.aft_begin.proofs.claiming.Claiming.at_door.Goals.{in-Claims, in-Seeks, in-Forgets, in-LetsGo, in_default}
use Rattle.aft_begin.proofs.claiming.Claiming.at_door.Goals as goal

pub returns-clause-steps : goal.returns-clause-steps
returns-clause-steps g c may =
    let u : ClaimView = record { by = c.self.inside.by; node = c.self.inside.node; uuid = c.self.inside.uuid; aim = c.self.inside.aim; stage = c.self.inside.stage } in
    elim c.match-replace.branch [
      | in-Claims w ↦ at_door_so u c.args.self.now c.args.door.now.history w.claims.new.door c.match-replace.door (Claims w.in-Claims.attempt) w.claims.result _ c.self.view_is (sym c.replace.ensures.value ∙ w.in-Claims.is) w.door-is w.t-16-is w.claims.ensures.steps may
      | in-Seeks w ↦ at_door_so u c.args.self.now c.args.door.now.history w.seeks.new.door c.match-replace.door (Seeks w.in-Seeks.attempt w.in-Seeks.sought) w.seeks.result _ c.self.view_is (sym c.replace.ensures.value ∙ w.in-Seeks.is) w.door-is w.t-16-is w.seeks.ensures.steps may
      | in-Forgets w ↦ at_door_so u c.args.self.now c.args.door.now.history w.forgets.new.door c.match-replace.door (Forgets w.in-Forgets.attempt w.in-Forgets.id) w.forgets.result _ c.self.view_is (sym c.replace.ensures.value ∙ w.in-Forgets.is) w.door-is w.t-16-is w.forgets.ensures.steps may
      | in-LetsGo w ↦ at_door_so u c.args.self.now c.args.door.now.history w.lets_go.new.door c.match-replace.door (LetsGo w.in-LetsGo.attempt w.in-LetsGo.reply) w.lets_go.result _ c.self.view_is (sym c.replace.ensures.value ∙ w.in-LetsGo.is) w.door-is w.t-16-is w.lets_go.ensures.steps may
      | in_default w ↦ absurd (door_never u c.args.self.now c.replace.result c.self.view_is (sym c.replace.ensures.value) c.requires.next w.in_default.not-Claims w.in_default.not-Seeks w.in_default.not-Forgets w.in_default.not-LetsGo)
    ]
