use Rattle.std.proofs.Common.{sym, ap, ◌∙◌, List}
use Rattle.std.specs.Prelude.{filter}
use Rattle.std.specs.Ordering.{is_lt}
use Rattle.aft_id.specs.TxnId.{id_lt}
use Rattle.aft_id.specs.declared.txn_id.TxnId.{TxnId}
use Rattle.aft_records.specs.Commits.{greatest}
use Rattle.aft_meta.proofs.Order.{greatest_below, none_below, listed-found}
use Rattle.aft_meta.proofs.ids.Ids.below.Goals as goal

pub returns-in-Some : goal.returns-in-Some
returns-in-Some c =
    let ids = c.self.inside.ids.keys in
    let parts = c.range.ensures.in_range tt in
    let here = parts.3 _ _ c.in-Some.ensures.steps in
    sym (greatest_below ids c.args.id.now c.in-Some.version.now (sym (listed-found c.in-Some.version.now ids) ∙ here.1) (ap is_lt here.0.1)
    (λ v less among. parts.4 _ _ c.in-Some.ensures.steps v (tt, less) (listed-found v ids ∙ among)))
    ∙ ap (λ (z : List TxnId). greatest (filter (λ v. id_lt v c.args.id.now) z)) c.self.view_is

pub returns-in-None : goal.returns-in-None
returns-in-None c =
    let ids = c.self.inside.ids.keys in
    let parts = c.range.ensures.in_range tt in
    sym (none_below ids c.args.id.now (λ v less. sym (listed-found v ids) ∙ parts.5 c.in-None.ensures.steps.0 v (tt, less)))
    ∙ ap (λ (z : List TxnId). greatest (filter (λ v. id_lt v c.args.id.now) z)) c.self.view_is
