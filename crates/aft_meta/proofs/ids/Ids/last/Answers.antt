use Rattle.std.proofs.Common.{sym, ap, ◌∙◌}
use Rattle.aft_records.specs.Commits.{greatest}
use Rattle.aft_meta.proofs.Order.{greatest_is, listed-found}
use Rattle.aft_meta.proofs.ids.Ids.last.Goals as goal

pub returns-in-Some : goal.returns-in-Some
returns-in-Some c =
    let ids = c.self.inside.ids.keys in
    sym (greatest_is ids c.in-Some.id.now (sym (listed-found c.in-Some.id.now ids) ∙ c.in-Some.ensures.member) (λ v among. c.in-Some.ensures.greatest v (listed-found v ids ∙ among))) ∙ ap greatest c.self.view_is
