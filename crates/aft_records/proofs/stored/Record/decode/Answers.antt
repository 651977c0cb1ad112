use Rattle.std.proofs.Common.{ap, subst, ◌∙◌, arith}
use Rattle.aft_records.specs.Gives.{Gives}
use Rattle.aft_records.specs.Reading.{record_of}
use Rattle.aft_records.proofs.Found.{found_by, record_found}
use Rattle.aft_records.proofs.Written.{record_written, timely_is}
use Rattle.aft_records.proofs.stored.Record.decode.Goals as goal

pub returns-clause-found : goal.returns-clause-found
returns-clause-found c = found_by _ (record_of c.args.bytes.now) c.record_from.result (λ x e. record_found c.args.bytes.now x (λ i. omega (arith, c.type_inv.bytes i)) e) c.record_from.ensures

pub returns-clause-only : goal.returns-clause-only
returns-clause-only c = λ whole fits e. subst (λ read. Gives (λ x. x) c.record_from.result read) (ap record_of e ∙ record_written whole fits.0 ∙ timely_is whole.commit.id.time whole fits.1) c.record_from.ensures
