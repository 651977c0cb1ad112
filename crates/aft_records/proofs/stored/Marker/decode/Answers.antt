use Rattle.std.proofs.Common.{ap, subst, ◌∙◌, arith}
use Rattle.aft_records.specs.Gives.{Gives}
use Rattle.aft_records.specs.Reading.{marker_of}
use Rattle.aft_records.specs.Stored.{marker_time}
use Rattle.aft_records.proofs.Found.{found_by, marker_found}
use Rattle.aft_records.proofs.Written.{marker_written, timely_is}
use Rattle.aft_records.proofs.stored.Marker.decode.Goals as goal

pub returns-clause-found : goal.returns-clause-found
returns-clause-found c = found_by _ (marker_of c.args.bytes.now) c.marker_from.result (λ x e. marker_found c.args.bytes.now x (λ i. omega (arith, c.type_inv.bytes i)) e) c.marker_from.ensures

pub returns-clause-only : goal.returns-clause-only
returns-clause-only c = λ whole fits e. subst (λ read. Gives (λ x. x) c.marker_from.result read) (ap marker_of e ∙ marker_written whole fits.0 ∙ timely_is (marker_time whole) whole fits.1) c.marker_from.ensures
