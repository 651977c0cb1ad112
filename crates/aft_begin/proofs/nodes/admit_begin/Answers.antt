use Rattle.std.proofs.Common.{◌<◌, subst, sym}
use Rattle.aft_begin.specs.declared.aim.Aim.TheVariants.{Begin}
use Rattle.aft_begin.specs.declared.stage.Stage.{Stage}
use Rattle.aft_begin.specs.declared.stage.Stage.TheVariants.{Begins}
use Rattle.aft_begin.specs.Made.{made_at}
use Rattle.aft_begin.specs.View.{FitsAt, left_at}
use Rattle.aft_begin.proofs.NodeSteps.{admit_step, admission_left}
use Rattle.aft_turns.specs.Steps.{StepsAtNode}
use Rattle.aft_begin.proofs.nodes.admit_begin.Goals as goal

pub returns-clause-steps : goal.returns-clause-steps
returns-clause-steps c =
    subst (λ (stage : Stage). StepsAtNode c.args.by c.args.front (made_at Begin c.args.by c.args.node.now.number c.args.uuid Begins) (made_at Begin c.args.by c.args.node.now.number c.args.uuid stage) c.args.node.now c.admit.new.self) (sym c.behind_admission.ensures)
    (admit_step c.args.front c.args.by c.args.uuid c.args.node.now c.admit.new.self c.law.ensures.legal c.admit.result c.admit.ensures.refused c.admit.ensures.free).0

pub returns-clause-fits : goal.returns-clause-fits
returns-clause-fits c =
    subst (FitsAt Begin c.args.node.now.number c.args.uuid) (sym c.behind_admission.ensures)
    (admit_step c.args.front c.args.by c.args.uuid c.args.node.now c.admit.new.self c.law.ensures.legal c.admit.result c.admit.ensures.refused c.admit.ensures.free).1

pub returns-clause-left : goal.returns-clause-left
returns-clause-left c = subst (λ (stage : Stage). left_at Begin stage < left_at Begin Begins) (sym c.behind_admission.ensures) (admission_left Begin c.admit.result)
