use Rattle.std.proofs.Common.{List, arith, subst, sym, ◌+◌}
use Rattle.aft_audit.specs.declared.fault.AuditFault.TheVariants as faults
use Rattle.aft_ledger.specs.View.{NodeView}
use Rattle.aft_boot.specs.FirstBoots.{HaveServed}
use Rattle.aft_boot.proofs.Chains.{as_fault, causes_chain, stores_chain}
use Rattle.aft_boot.proofs.Served.{lacks_memory, one_more, ready_next, stops_next}
use Rattle.aft_boot.proofs.opens.boots.Goals as goal

pub booted-requires-clause-ready : goal.booted-requires-clause-ready
booted-requires-clause-ready g c =
    ready_next c.args.conf.now.cache c.args.lines c.loop-served.served c.loop-served.nodes.items c.args.door.now.history c.loop-served.door.history c.requires.ready c.loop-served.invariant.0

pub returns-in_err-node-clause-boots : goal.returns-in_err-node-clause-boots
returns-in_err-node-clause-boots g c =
    as_fault c.from_residual.result c.in_err-node.field-0.0 _ _ c.from_residual.ensures
    (stops_next c.args.conf.now.cache c.args.lines c.loop-served.served c.args.conf.now.nodes c.loop-served.nodes.items c.in_err-node.field-0.0 c.args.door.now.history c.loop-served.door.history c.booted.new.door.history (omega arith) c.loop-served.invariant.0 c.in_err-node.ensures.booted)

pub returns-in_err-push-clause-boots : goal.returns-in_err-push-clause-boots
returns-in_err-push-clause-boots g c =
    as_fault c.from_residual-in_err-push.result faults.Memory _ _ c.from_residual-in_err-push.ensures
    (lacks_memory c.args.conf.now.cache c.args.lines (c.loop-served.served + 1) c.args.conf.now.nodes _ c.args.door.now.history c.booted.new.door.history (omega arith)
    (one_more c.args.conf.now.cache c.args.lines c.loop-served.served c.loop-served.nodes.items c.in_ok-node.node c.args.door.now.history c.loop-served.door.history c.booted.new.door.history c.loop-served.invariant.0 c.in_ok-node.ensures.booted))

pub loop-served-preserved : goal.loop-served-preserved
loop-served-preserved g c = (
  subst (λ (ns : List NodeView). HaveServed c.args.conf.now.cache c.args.lines (c.loop-served.served + 1) ns c.args.door.now.history c.booted.new.door.history) (sym c.in_ok-push.ensures.items)
      (one_more c.args.conf.now.cache c.args.lines c.loop-served.served c.loop-served.nodes.items c.in_ok-node.node c.args.door.now.history c.loop-served.door.history c.booted.new.door.history c.loop-served.invariant.0 c.in_ok-node.ensures.booted),
  causes_chain c.args.door.now.history c.loop-served.door.history c.booted.new.door.history c.args.door.now.faults c.loop-served.door.faults c.booted.new.door.faults c.loop-served.invariant.1 c.booted.ensures.cause,
  stores_chain c.args.door.now c.loop-served.door c.booted.new.door c.loop-served.invariant.2 c.booted.ensures.store,
)

pub returns-in_err-push-clause-cause : goal.returns-in_err-push-clause-cause
returns-in_err-push-clause-cause g c = causes_chain c.args.door.now.history c.loop-served.door.history c.booted.new.door.history c.args.door.now.faults c.loop-served.door.faults c.booted.new.door.faults c.loop-served.invariant.1 c.booted.ensures.cause
