use Rattle.std.proofs.Common.{ap}
use Rattle.aft_id.specs.declared.txn_id.TxnId.{TxnId}
use Rattle.aft_records.specs.declared.stored.Marker.{Marker}
use Rattle.aft_records.specs.Reading.{marker_of}
use Rattle.aft_model.specs.Readings.{id_of_marker, marker_name}
use Rattle.aft_audit.proofs.Among.{none_read, spelled_if}
use Rattle.aft_audit.proofs.reading.marker_in.Goals as goal

pub returns-in-None : goal.returns-in-None
returns-in-None c = none_read c.args.name.now (λ (m : Marker). marker_name (id_of_marker m).uuid) (marker_of c.args.bytes.now) (rw c.in-None.is at (c.in_ok-readable.ensures (marker_of c.args.bytes.now) c.decode.ensures.exact))

pub returns-in-Some : goal.returns-in-Some
returns-in-Some c =
    spelled_if c.args.name.now (marker_name c.id_of-uuid.result.uuid) (λ (m : Marker). marker_name (id_of_marker m).uuid) (marker_of c.args.bytes.now) c.in-Some.marker c.if_spelled.result
    (rw c.in-Some.is at (c.in_ok-readable.ensures (marker_of c.args.bytes.now) c.decode.ensures.exact)) (ap (λ (id : TxnId). marker_name id.uuid) c.id_of-uuid.ensures) c.if_spelled.ensures
