use Rattle.std.proofs.Common.{Bool, true, false, sym, subst, ◌∙◌}
use Rattle.aft_ledger.specs.View.{NodeView}
use Rattle.aft_node.specs.declared.goes.StartGo.{StartGo}
use Rattle.aft_commit.specs.declared.stage.Stage.{Stage}
use Rattle.aft_commit.specs.View.{FitsAt, opened_stage}
use Rattle.aft_commit.proofs.Opening.{OpenStep, fits_so, leave_step, start_step}
use Rattle.aft_commit.proofs.nodes.open.Goals.{then-aborts, else-aborts}
use Rattle.aft_commit.proofs.nodes.open.Goals as goal

pub returns-clause-fits : goal.returns-clause-fits
returns-clause-fits c = subst (FitsAt c.args.hold.now.node) (sym c.opened.ensures.value) (fits_so c.args.hold.now.node c.if-aborts.go c.args.hold.now.attempt c.args.aborts c.requires.attempt)

pub returns-clause-steps : goal.returns-clause-steps
returns-clause-steps c =
    subst (λ (s : Stage). OpenStep c.args.now c.args.front c.args.by c.args.hold.now c.args.node.now c.if-aborts.node c.law.ensures.legal c.requires.place (λ a held. c.requires.attempt a held ∙ c.requires.place) c.args.aborts s) (sym c.opened.ensures.value)
    (elim c.if-aborts.branch [
      | then-aborts w ↦
          subst (λ (t : Bool). OpenStep c.args.now c.args.front c.args.by c.args.hold.now c.args.node.now c.if-aborts.node c.law.ensures.legal c.requires.place (λ a held. c.requires.attempt a held ∙ c.requires.place) t (opened_stage c.if-aborts.go c.args.hold.now.attempt t)) (sym w.if-aborts.true)
          (subst (λ (n : NodeView). OpenStep c.args.now c.args.front c.args.by c.args.hold.now c.args.node.now n c.law.ensures.legal c.requires.place (λ a held. c.requires.attempt a held ∙ c.requires.place) true (opened_stage c.if-aborts.go c.args.hold.now.attempt true)) (sym w.node-is)
          (subst (λ (g : StartGo). OpenStep c.args.now c.args.front c.args.by c.args.hold.now c.args.node.now w.leave-go.new.self c.law.ensures.legal c.requires.place (λ a held. c.requires.attempt a held ∙ c.requires.place) true (opened_stage g c.args.hold.now.attempt true)) (sym w.go-is)
          (leave_step c.args.now c.args.front c.args.by c.args.hold.now c.args.node.now w.leave-go.new.self c.law.ensures.legal c.requires.place (λ a held. c.requires.attempt a held ∙ c.requires.place) w.leave-go.result w.leave-go.ensures)))
      | else-aborts w ↦
          subst (λ (t : Bool). OpenStep c.args.now c.args.front c.args.by c.args.hold.now c.args.node.now c.if-aborts.node c.law.ensures.legal c.requires.place (λ a held. c.requires.attempt a held ∙ c.requires.place) t (opened_stage c.if-aborts.go c.args.hold.now.attempt t)) (sym w.if-aborts.false)
          (subst (λ (n : NodeView). OpenStep c.args.now c.args.front c.args.by c.args.hold.now c.args.node.now n c.law.ensures.legal c.requires.place (λ a held. c.requires.attempt a held ∙ c.requires.place) false (opened_stage c.if-aborts.go c.args.hold.now.attempt false)) (sym w.node-is)
          (subst (λ (g : StartGo). OpenStep c.args.now c.args.front c.args.by c.args.hold.now c.args.node.now w.start-go.new.self c.law.ensures.legal c.requires.place (λ a held. c.requires.attempt a held ∙ c.requires.place) false (opened_stage g c.args.hold.now.attempt false)) (sym w.go-is)
          (start_step c.args.now c.args.front c.args.by c.args.hold.now c.args.node.now w.start-go.new.self c.law.ensures.legal c.requires.place (λ a held. c.requires.attempt a held ∙ c.requires.place) w.start-go.result w.start-go.ensures)))
    ])
