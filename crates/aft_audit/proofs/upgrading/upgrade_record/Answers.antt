use Rattle.std.proofs.Common.{Bool, ap, sym, ◌∙◌}
use Rattle.std.specs.Prelude.{Ok, Option, Some}
use Rattle.std.proofs.lemmas.Result.{err_from_is_err_and}
use Rattle.aft_keeper.specs.declared.keeper.KeeperAnswer.TheVariants.{Done}
use Rattle.aft_records.specs.Rows.{record_row}
use Rattle.aft_door.specs.Calls.{upgraded}
use Rattle.aft_audit.proofs.UpgradeCalls.{get_refused, got, put_refused, still_untouched}
use Rattle.aft_audit.proofs.UpgradeEnds.{found_none, got_only, put_done}
use Rattle.aft_audit.proofs.upgrading.upgrade_record.Goals as goal

pub returns-in_err-found-clause-err : goal.returns-in_err-found-clause-err
returns-in_err-found-clause-err g c =
    let p = err_from_is_err_and c.from_residual-in_err-found.result c.from_residual-in_err-found.ensures.1 in
    rw (p.1, p.2) (λ others. get_refused c.args.commit.now others c.in_err-found.field-0.0 c.args.door.now c.get.new.self c.opener.result c.opener.ensures c.in_err-found.ensures.shows)

pub returns-in_err-format_of-clause-err : goal.returns-in_err-format_of-clause-err
returns-in_err-format_of-clause-err g c =
    let p = err_from_is_err_and c.from_residual-in_err-format_of.result c.from_residual-in_err-format_of.ensures.1 in
    rw (p.1, p.2) (λ others. got_only c.args.commit.now others c.args.door.now.history c.in_ok-found.found c.get.new.self.history (got c.in_ok-found.found _ c.args.door.now c.get.new.self (rw c.opener.ensures at c.in_ok-found.ensures.shows)))

pub returns-in_err-put_upgrade-in-Some-true-clause-untouched : goal.returns-in_err-put_upgrade-in-Some-true-clause-untouched
returns-in_err-put_upgrade-in-Some-true-clause-untouched g c =
    still_untouched c.in_ok-found.found c.opener-in-Some-true.result _ _ _ c.args.door.now.history c.get.new.self.history c.put_upgrade.new.self.history
    (got c.in_ok-found.found _ c.args.door.now c.get.new.self (rw c.opener.ensures at c.in_ok-found.ensures.shows)) c.in_err-put_upgrade-in-Some-true.ensures.asks.history c.requires

pub returns-in_err-put_upgrade-in-Some-true-clause-err : goal.returns-in_err-put_upgrade-in-Some-true-clause-err
returns-in_err-put_upgrade-in-Some-true-clause-err g c =
    let p = err_from_is_err_and c.from_residual-in_err-put_upgrade-in-Some-true.result c.from_residual-in_err-put_upgrade-in-Some-true.ensures.1 in
    let first = c.in-Some-true.is ∙ ap (λ (b : Bool). Some b) c.in-Some-true.field-0-test in
    rw (p.1, p.2) (λ others. put_refused c.args.commit.now others c.in_err-put_upgrade-in-Some-true.field-0.0 c.in_ok-found.found c.args.door.now.history c.get.new.self c.put_upgrade.new.self
    (got c.in_ok-found.found _ c.args.door.now c.get.new.self (rw c.opener.ensures at c.in_ok-found.ensures.shows)) (c.in_ok-format_of.ensures.limits (ap (λ (o : Option Bool). Ok o) first)) (sym c.in_ok-format_of.ensures.format ∙ first)
    (rw c.opener-in-Some-true.ensures at c.in_err-put_upgrade-in-Some-true.ensures.asks))

pub returns-in-Some-true-clause-untouched : goal.returns-in-Some-true-clause-untouched
returns-in-Some-true-clause-untouched g c =
    still_untouched c.in_ok-found.found c.opener-in-Some-true.result _ (record_row (upgraded c.args.commit.now)) (Some Done) c.args.door.now.history c.get.new.self.history c.put_upgrade.new.self.history
    (got c.in_ok-found.found _ c.args.door.now c.get.new.self (rw c.opener.ensures at c.in_ok-found.ensures.shows)) c.in_ok-put_upgrade-in-Some-true.ensures.asks.history c.requires

pub returns-in-Some-true-clause-ok : goal.returns-in-Some-true-clause-ok
returns-in-Some-true-clause-ok g c =
    let first = c.in-Some-true.is ∙ ap (λ (b : Bool). Some b) c.in-Some-true.field-0-test in
    λ others. put_done c.args.commit.now others c.args.door.now.history c.in_ok-found.found c.get.new.self.history
    (got c.in_ok-found.found _ c.args.door.now c.get.new.self (rw c.opener.ensures at c.in_ok-found.ensures.shows)) (c.in_ok-format_of.ensures.limits (ap (λ (o : Option Bool). Ok o) first)) (sym c.in_ok-format_of.ensures.format ∙ first)
    c.put_upgrade.new.self.history (let asks = rw c.opener-in-Some-true.ensures at c.in_ok-put_upgrade-in-Some-true.ensures.asks in asks.history)

pub returns-clause-err : goal.returns-clause-err
returns-clause-err g c =
    rw c.in_ok-text.ensures
    (λ others. found_none c.args.commit.now others c.args.door.now.history c.in_ok-found.found c.get.new.self.history
    (got c.in_ok-found.found _ c.args.door.now c.get.new.self (rw c.opener.ensures at c.in_ok-found.ensures.shows)) (sym c.in_ok-format_of.ensures.format ∙ c.in-None.is))
