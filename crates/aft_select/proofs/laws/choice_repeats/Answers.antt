use Rattle.std.proofs.Common.{ap}
use Rattle.std.specs.Prelude.{if◌then◌else◌}
use Rattle.aft_records.specs.Commits.{greatest, versions}
use Rattle.aft_model.specs.Choice.{blockers, chosen, fitting, none_chosen}
use Rattle.aft_model.specs.declared.choice.Choice.TheVariants.{Absent}
use Rattle.aft_select.proofs.Repeats.{repeats}
use Rattle.aft_select.proofs.laws.choice_repeats.Goals as goal

pub returns-clause-version : goal.returns-clause-version
returns-clause-version c key id reads known once atomic read real written = repeats key id reads known atomic read once real written

pub returns-clause-absent : goal.returns-clause-absent
returns-clause-absent c key reads known read = ap (λ t. if t then Absent else chosen (greatest (fitting key reads known)) (none_chosen (versions key known) (blockers key reads known))) read
