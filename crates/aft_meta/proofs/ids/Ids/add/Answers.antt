use Rattle.std.proofs.Common.{ap, ◌∙◌, ◌||◌}
use Rattle.aft_id.specs.TxnId.{same_id}
use Rattle.aft_records.specs.Commits.{is_listed}
use Rattle.aft_meta.proofs.Order.{added}
use Rattle.aft_meta.proofs.ids.Ids.add.Goals as goal

pub returns-clause-ok : goal.returns-clause-ok
returns-clause-ok c v =
    added c.args.id.now v c.self.inside.ids.keys c.insert.new.self.keys (c.in_ok-insert.ensures.updates.0 v) ∙ ap (λ ids. is_listed v ids || same_id v c.args.id.now) c.self.view_is
