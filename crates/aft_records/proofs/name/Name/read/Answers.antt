use Rattle.std.proofs.Common.{ap, subst, ◌∙◌}
use Rattle.aft_records.specs.NameReading.{GivesName, name_of}
use Rattle.aft_records.proofs.NameFound.{is_found}
use Rattle.aft_records.proofs.NameWritten.{name_written}
use Rattle.aft_records.proofs.name.Name.read.Goals as goal

pub returns-clause-found : goal.returns-clause-found
returns-clause-found c = is_found c.args.text.now c.name_from.result c.name_from.ensures

pub returns-clause-only : goal.returns-clause-only
returns-clause-only c = λ name fits e. subst (λ read. GivesName (λ x. x) c.name_from.result read) (ap name_of e ∙ name_written name fits) c.name_from.ensures
