use Rattle.std.proofs.Common.{ap}
use Rattle.aft_records.specs.declared.stored.Version.{Version}
use Rattle.aft_records.specs.Reading.{version_of}
use Rattle.aft_model.specs.Readings.{version_name}
use Rattle.aft_audit.proofs.Among.{none_read, spelled_if}
use Rattle.aft_audit.proofs.reading.version_in.Goals as goal

pub returns-in-None : goal.returns-in-None
returns-in-None c = none_read c.args.name.now (λ (v : Version). version_name v.key v.id) (version_of c.args.bytes.now) (rw c.in-None.is at (c.in_ok-readable.ensures (version_of c.args.bytes.now) c.decode.ensures.exact))

pub returns-in_ok-key-in-Some : goal.returns-in_ok-key-in-Some
returns-in_ok-key-in-Some c =
    spelled_if c.args.name.now (version_name c.in_ok-key-in-Some.key c.in-Some.version.id) (λ (v : Version). version_name v.key v.id) (version_of c.args.bytes.now) c.in-Some.version c.if_spelled.result
    (rw c.in-Some.is at (c.in_ok-readable.ensures (version_of c.args.bytes.now) c.decode.ensures.exact)) (ap (λ k. version_name k c.in-Some.version.id) c.in_ok-key-in-Some.ensures.cases) c.if_spelled.ensures
