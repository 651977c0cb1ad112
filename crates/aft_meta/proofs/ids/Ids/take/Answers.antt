use Rattle.std.proofs.Common.{ap, not, ◌∙◌, ◌&&◌}
use Rattle.aft_id.specs.TxnId.{same_id}
use Rattle.aft_records.specs.Commits.{is_listed}
use Rattle.aft_meta.proofs.Order.{taken_away}
use Rattle.aft_meta.proofs.ids.Ids.take.Goals as goal

pub returns : goal.returns
returns c v =
    taken_away c.args.id.now v c.self.inside.ids.keys c.remove.new.self.keys (c.remove.ensures.updates.0 v) ∙ ap (λ ids. is_listed v ids && not (same_id v c.args.id.now)) c.self.view_is
