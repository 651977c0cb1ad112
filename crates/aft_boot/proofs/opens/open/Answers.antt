use Rattle.std.proofs.Common.{inr}
use Rattle.aft_audit.specs.declared.fault.AuditFault.TheVariants as faults
use Rattle.aft_boot.proofs.Audited.{ready_first, works}
use Rattle.aft_boot.proofs.Chains.{as_stop, cause_behind}
use Rattle.aft_boot.proofs.Served.{none_booted}
use Rattle.aft_boot.proofs.opens.open.Goals as goal

pub boots-requires-clause-ready : goal.boots-requires-clause-ready
boots-requires-clause-ready g c = ready_first c.in_ok-commits.commits c.audit.new.door.history c.in_ok-commits.ensures.answer c.law_legal.ensures.legal

pub returns-in_err-office-clause-stopped : goal.returns-in_err-office-clause-stopped
returns-in_err-office-clause-stopped g c =
    as_stop c.from_residual-in_err-office.result faults.Memory _ c.from_residual-in_err-office.ensures
    (inr (record { audited = c.audit.new.door.history; commits = c.in_ok-commits.commits; opened = c.in_ok-commits.ensures.answer; stopped = none_booted c.args.conf.now.cache c.args.lines c.args.conf.now.nodes c.audit.new.door.history }))

pub returns-in_err-boxes-clause-stopped : goal.returns-in_err-boxes-clause-stopped
returns-in_err-boxes-clause-stopped g c =
    as_stop c.from_residual-in_err-boxes.result faults.Memory _ c.from_residual-in_err-boxes.ensures
    (inr (record { audited = c.audit.new.door.history; commits = c.in_ok-commits.commits; opened = c.in_ok-commits.ensures.answer; stopped = none_booted c.args.conf.now.cache c.args.lines c.args.conf.now.nodes c.audit.new.door.history }))

pub returns-in_err-nodes-clause-cause : goal.returns-in_err-nodes-clause-cause
returns-in_err-nodes-clause-cause g c =
    cause_behind c.audit.new.door.history c.boots.new.door.history c.args.door.now.faults c.audit.new.door.faults c.boots.new.door.faults
    (works c.in_ok-commits.commits c.audit.new.door.history c.in_ok-commits.ensures.answer c.law_legal.ensures.legal) c.audit.ensures.cause.never_falls c.boots.ensures.cause

pub returns-clause-cause : goal.returns-clause-cause
returns-clause-cause g c =
    cause_behind c.audit.new.door.history c.boots.new.door.history c.args.door.now.faults c.audit.new.door.faults c.boots.new.door.faults
    (works c.in_ok-commits.commits c.audit.new.door.history c.in_ok-commits.ensures.answer c.law_legal.ensures.legal) c.audit.ensures.cause.never_falls c.boots.ensures.cause
