use Rattle.std.proofs.Common.{◌<◌, subst, sym}
use Rattle.aft_begin.specs.declared.aim.Aim.TheVariants.{Forget}
use Rattle.aft_begin.specs.declared.stage.Stage.{Stage}
use Rattle.aft_begin.specs.declared.stage.Stage.TheVariants.{Begins}
use Rattle.aft_begin.specs.Made.{made_at}
use Rattle.aft_begin.specs.View.{FitsAt, left_at}
use Rattle.aft_begin.proofs.NodeSteps.{forget_step, admission_left}
use Rattle.aft_turns.specs.Steps.{StepsAtNode}
use Rattle.aft_begin.proofs.nodes.admit_forget.Goals as goal

pub returns-clause-steps : goal.returns-clause-steps
returns-clause-steps c =
    subst (λ (stage : Stage). StepsAtNode c.args.by c.args.front (made_at Forget c.args.by c.args.node.now.number c.args.uuid Begins) (made_at Forget c.args.by c.args.node.now.number c.args.uuid stage) c.args.node.now c.admit_forget.new.self) (sym c.behind_admission.ensures)
    (forget_step c.args.front c.args.by c.args.uuid c.args.node.now c.admit_forget.new.self c.law.ensures.legal c.admit_forget.result c.admit_forget.ensures).0

pub returns-clause-fits : goal.returns-clause-fits
returns-clause-fits c =
    subst (FitsAt Forget c.args.node.now.number c.args.uuid) (sym c.behind_admission.ensures)
    (forget_step c.args.front c.args.by c.args.uuid c.args.node.now c.admit_forget.new.self c.law.ensures.legal c.admit_forget.result c.admit_forget.ensures).1

pub returns-clause-left : goal.returns-clause-left
returns-clause-left c = subst (λ (stage : Stage). left_at Forget stage < left_at Forget Begins) (sym c.behind_admission.ensures) (admission_left Forget c.admit_forget.result)
