use Rattle.std.proofs.Common.{subst, sym}
use Rattle.aft_boot.specs.Booted.{made_at}
use Rattle.aft_boot.specs.declared.stage.Stage.{Stage}
use Rattle.aft_boot.specs.declared.stage.Stage.TheVariants.{Begins}
use Rattle.aft_boot.proofs.NodeTurns.{first_turn}
use Rattle.aft_turns.specs.Steps.{StepsAtNode}
use Rattle.aft_boot.proofs.turns.begin.Goals as goal

pub returns-clause-steps : goal.returns-clause-steps
returns-clause-steps c =
    subst (λ (s : Stage). StepsAtNode c.args.by c.args.front (made_at c.args.by c.args.node.now.number Begins) (made_at c.args.by c.args.node.now.number s) c.args.node.now c.boot_first-go.new.self) (sym c.begun.ensures)
    (first_turn c.args.by c.args.front c.args.node.now c.boot_first-go.new.self c.law.ensures.legal c.boot_first-go.result c.boot_first-go.ensures)
