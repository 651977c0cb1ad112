use Rattle.std.proofs.Common.{rules, ◌∙◌}
use Rattle.std.proofs.lemmas.Fn.{filter_same}
use Rattle.aft_meta.proofs.Places.{without_one}
use Rattle.aft_meta.proofs.plain_meta.take_out.Goals as goal

pub returns : goal.returns
returns c = filter_same _ _ _ (λ x b f' k. search rules) _ _ c.retain.ensures.filtered ∙ without_one c.args.id.now c.args.commits.now.items
