use Rattle.std.proofs.Common.{subst, ℕ}
use Rattle.std.specs.Prelude.{IsTrue}
use Rattle.aft_keeper.specs.Cause.{HasCause}
use Rattle.aft_model.specs.Opening.{has_failed}
use Rattle.aft_boot.specs.World.{settings_of}
use Rattle.aft_boot.proofs.NoWorlds.{cause_of, failed, refused_so, why}
use Rattle.aft_boot.proofs.Worlds.{all_works, numbered, office_so, opened_run, ready, settings_fit}
use Rattle.aft_boot.proofs.opens.opening.Goals as goal

pub returns-in-Ok-clause-run : goal.returns-in-Ok-clause-run
returns-in-Ok-clause-run g c asked same =
    opened_run (settings_of c.args.conf.now) c.args.lines c.open-opened.new.door.history c.in-Ok.nodes c.in-Ok.boxes c.in-Ok.office c.in-Ok.ensures.made c.law_legal.ensures.legal asked same
    (settings_fit c.args.conf.now c.requires.settings) c.law_legal.ensures.bytes

pub returns-in-Ok-clause-numbers : goal.returns-in-Ok-clause-numbers
returns-in-Ok-clause-numbers g c = numbered (settings_of c.args.conf.now) c.args.lines c.open-opened.new.door.history c.in-Ok.nodes c.in-Ok.boxes c.in-Ok.office c.in-Ok.ensures.made c.law_legal.ensures.legal

pub returns-in-Ok-clause-nodes : goal.returns-in-Ok-clause-nodes
returns-in-Ok-clause-nodes g c = ready (settings_of c.args.conf.now) c.args.lines c.open-opened.new.door.history c.in-Ok.nodes c.in-Ok.boxes c.in-Ok.office c.in-Ok.ensures.made c.law_legal.ensures.legal

pub returns-in-Ok-clause-office : goal.returns-in-Ok-clause-office
returns-in-Ok-clause-office g c = office_so (settings_of c.args.conf.now) c.args.lines c.open-opened.new.door.history c.in-Ok.nodes c.in-Ok.boxes c.in-Ok.office c.in-Ok.ensures.made c.law_legal.ensures.legal

pub returns-in-Ok-clause-works : goal.returns-in-Ok-clause-works
returns-in-Ok-clause-works g c = all_works (settings_of c.args.conf.now) c.args.lines c.open-opened.new.door.history c.in-Ok.nodes c.in-Ok.boxes c.in-Ok.office c.in-Ok.ensures.made c.law_legal.ensures.legal

pub returns-in-Err-clause-refused : goal.returns-in-Err-clause-refused
returns-in-Err-clause-refused g c =
    refused_so (settings_of c.args.conf.now) c.in-Err.fault c.open-opened.new.door.history c.in-Err.ensures.stopped c.law_legal.ensures.legal c.law_legal.ensures.bytes (settings_fit c.args.conf.now c.requires.settings)

pub returns-in-Err-clause-why : goal.returns-in-Err-clause-why
returns-in-Err-clause-why g c = why (settings_of c.args.conf.now) c.in-Err.fault c.open-opened.new.door.history c.in-Err.ensures.stopped c.law_legal.ensures.legal

pub returns-in-Err-clause-failed : goal.returns-in-Err-clause-failed
returns-in-Err-clause-failed g c = failed (settings_of c.args.conf.now) c.in-Err.fault c.open-opened.new.door.history c.in-Err.ensures.stopped c.law_legal.ensures.legal

pub returns-in-Err-clause-cause : goal.returns-in-Err-clause-cause
returns-in-Err-clause-cause g c =
    cause_of (settings_of c.args.conf.now) c.in-Err.fault c.open-opened.new.door.history (g.K.Keeper.faults c.args.keeper) c.open-opened.new.door.faults c.in-Err.ensures.stopped c.law_legal.ensures.legal
    (subst (λ (n : ℕ). HasCause (IsTrue (has_failed c.open-opened.new.door.history)) n c.open-opened.new.door.faults) c.new-door.ensures.faults c.in-Err.ensures.cause)
