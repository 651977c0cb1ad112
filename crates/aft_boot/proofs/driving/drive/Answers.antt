use Rattle.std.proofs.Common.{◌∙◌, ◌-◌}
use Rattle.aft_boot.proofs.Chains.{causes_chain, stores_chain}
use Rattle.aft_boot.proofs.driving.drive.Goals as goal

pub loop-boot-preserved : goal.loop-boot-preserved
loop-boot-preserved g c = (
  c.step.ensures.drives c.args.door.now.history c.args.node.now.capacity (c.args.node.now.room - 1) c.loop-boot.invariant.0,
  c.step.ensures.node ∙ c.loop-boot.invariant.1,
  causes_chain c.args.door.now.history c.loop-boot.door.history c.step.new.door.history c.args.door.now.faults c.loop-boot.door.faults c.step.new.door.faults c.loop-boot.invariant.2 c.step.ensures.cause,
  stores_chain c.args.door.now c.loop-boot.door c.step.new.door c.loop-boot.invariant.3 c.step.ensures.store,
)
