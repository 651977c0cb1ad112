use Rattle.std.proofs.Common.{[], ap, sym, ◌∙◌, ◌||◌, Some}
use Rattle.std.specs.Option.{unwrap_or}
use Rattle.aft_id.specs.TxnId.{same_id}
use Rattle.aft_records.specs.Commits.{is_listed}
use Rattle.aft_meta.proofs.Under.{one_more}
use Rattle.aft_meta.proofs.writers.add_first.Goals as goal

pub returns-clause-ok : goal.returns-clause-ok
returns-clause-ok c =
    one_more c.args.key.now c.args.id.now (Some c.add.new.self) c.args.writers.now.entries c.insert.new.self.entries
    (rw c.in_ok-clone.ensures.cases at c.in_ok-insert.ensures.updates.0)
    (λ v. c.in_ok-add.ensures.ok v ∙ ap (λ ids. is_listed v ids || same_id v c.args.id.now) (c.new-ids.ensures ∙ ap (λ o. unwrap_or o []) (sym c.requires)))
