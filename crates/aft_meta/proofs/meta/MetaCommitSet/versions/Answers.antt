use Rattle.std.proofs.Common.{[], List, ap, refl, subst, ◌∙◌}
use Rattle.std.specs.Prelude.{IsTrue}
use Rattle.std.specs.Option.{unwrap_or}
use Rattle.aft_id.specs.declared.txn_id.TxnId.{TxnId}
use Rattle.aft_records.specs.Commits.{is_ascending, versions}
use Rattle.aft_meta.proofs.Asked.{versions_under}
use Rattle.aft_meta.proofs.meta.MetaCommitSet.versions.Goals as goal

pub returns-in_ok-list-in-Some-clause-ids : goal.returns-in_ok-list-in-Some-clause-ids
returns-in_ok-list-in-Some-clause-ids c =
    let under = ap (λ o. unwrap_or o []) c.in-Some.ensures.value in
    c.from_vec.ensures ∙ c.in_ok-list-in-Some.ensures.ids ∙ under
    ∙ versions_under c.self.inside.commits.entries c.self.inside.writers.entries c.self.invariant.index c.args.key.now (subst (λ (ids : List TxnId). IsTrue (is_ascending ids)) under c.list.ensures.in_order)
    ∙ ap (versions c.args.key.now) c.self.view_is

pub returns-in-None-clause-ids : goal.returns-in-None-clause-ids
returns-in-None-clause-ids c =
    let under = ap (λ o. unwrap_or o []) c.in-None.ensures.value in
    c.from_vec-in-None.ensures ∙ c.new.ensures.items ∙ under
    ∙ versions_under c.self.inside.commits.entries c.self.inside.writers.entries c.self.invariant.index c.args.key.now (subst (λ (ids : List TxnId). IsTrue (is_ascending ids)) under refl)
    ∙ ap (versions c.args.key.now) c.self.view_is
