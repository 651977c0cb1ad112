use Rattle.std.proofs.Common.{ap}
use Rattle.aft_records.specs.declared.stored.Record.{Record}
use Rattle.aft_records.specs.Reading.{record_of}
use Rattle.aft_model.specs.Readings.{record_name}
use Rattle.aft_audit.proofs.Among.{none_read, spelled_if}
use Rattle.aft_audit.proofs.reading.written_in.Goals as goal

pub returns-in-None : goal.returns-in-None
returns-in-None c = none_read c.args.name.now (λ (x : Record). record_name x.commit.id.uuid) (record_of c.args.bytes.now) (rw c.in-None.is at (c.in_ok-readable.ensures (record_of c.args.bytes.now) c.decode.ensures.exact))

pub returns-in-Some : goal.returns-in-Some
returns-in-Some c =
    spelled_if c.args.name.now (record_name c.uuid_of-uuid.result) (λ (x : Record). record_name x.commit.id.uuid) (record_of c.args.bytes.now) c.in-Some.whole c.if_spelled.result
    (rw c.in-Some.is at (c.in_ok-readable.ensures (record_of c.args.bytes.now) c.decode.ensures.exact)) (ap record_name c.uuid_of-uuid.ensures) c.if_spelled.ensures
