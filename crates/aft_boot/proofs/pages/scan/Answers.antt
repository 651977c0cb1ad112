use Rattle.std.proofs.Common.{List, ℕ, subst}
use Rattle.aft_keeper.specs.declared.keeper.KeeperCall.TheVariants.{Scan}
use Rattle.aft_model.specs.Sound.{records_prefix}
use Rattle.aft_door.specs.Calls.{Shows, told_page}
use Rattle.aft_boot.proofs.DoorTurns.{pages_so}
use Rattle.aft_boot.proofs.Leading.{are_under, is_page_shown, leads_fit, leads_left}
use Rattle.aft_boot.proofs.pages.scan.Goals as goal

pub lead-requires-clause-under : goal.lead-requires-clause-under
lead-requires-clause-under g c =
    are_under c.args.after c.scan-told.result (is_page_shown (record { node = c.args.node; inc = c.args.inc; by = c.args.by }) c.args.after c.args.door.now c.scan-told.new.self c.scan-told.result
    (subst (λ (n : List ℕ). Shows told_page c.args.door.now (record { node = c.args.node; inc = c.args.inc; by = c.args.by }) (Scan records_prefix n 64) c.scan-told.result c.scan-told.new.self) c.as_str.ensures c.scan-told.ensures.shows) c.law_legal.ensures.legal)

pub returns-clause-left : goal.returns-clause-left
returns-clause-left g c = leads_left c.args.node c.args.inc c.args.listed c.args.after c.args.commits c.requires.fits c.scan-told.result c.lead.result c.lead.ensures

pub returns-clause-fits : goal.returns-clause-fits
returns-clause-fits g c =
    leads_fit c.args.node c.args.inc c.args.listed c.args.after c.args.commits c.requires.fits c.scan-told.result c.lead.result
    (is_page_shown (record { node = c.args.node; inc = c.args.inc; by = c.args.by }) c.args.after c.args.door.now c.scan-told.new.self c.scan-told.result
    (subst (λ (n : List ℕ). Shows told_page c.args.door.now (record { node = c.args.node; inc = c.args.inc; by = c.args.by }) (Scan records_prefix n 64) c.scan-told.result c.scan-told.new.self) c.as_str.ensures c.scan-told.ensures.shows) c.law_legal.ensures.legal)
    c.lead.ensures

pub returns-clause-steps : goal.returns-clause-steps
returns-clause-steps g c may =
    pages_so c.args.by c.args.node c.args.inc c.args.after c.args.listed c.args.commits c.args.door.now c.scan-told.new.self may c.scan-told.result c.lead.result c.scan-told.ensures.refused
    (subst (λ (n : List ℕ). Shows told_page c.args.door.now (record { node = c.args.node; inc = c.args.inc; by = c.args.by }) (Scan records_prefix n 64) c.scan-told.result c.scan-told.new.self) c.as_str.ensures c.scan-told.ensures.shows) c.lead.ensures
