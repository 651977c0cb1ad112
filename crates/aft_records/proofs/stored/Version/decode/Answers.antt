use Rattle.std.proofs.Common.{ap, subst, ◌∙◌, arith}
use Rattle.aft_records.specs.Gives.{Gives}
use Rattle.aft_records.specs.Reading.{version_of}
use Rattle.aft_records.proofs.Found.{found_by, version_found}
use Rattle.aft_records.proofs.Written.{version_written, timely_is}
use Rattle.aft_records.proofs.stored.Version.decode.Goals as goal

pub returns-clause-found : goal.returns-clause-found
returns-clause-found c = found_by _ (version_of c.args.bytes.now) c.version_from.result (λ x e. version_found c.args.bytes.now x (λ i. omega (arith, c.type_inv.bytes i)) e) c.version_from.ensures

pub returns-clause-only : goal.returns-clause-only
returns-clause-only c = λ whole fits e. subst (λ read. Gives (λ x. x) c.version_from.result read) (ap version_of e ∙ version_written whole fits.0 ∙ timely_is whole.id.time whole fits.1) c.version_from.ensures
