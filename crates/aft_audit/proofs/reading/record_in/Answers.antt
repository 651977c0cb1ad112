use Rattle.std.proofs.Common.{ap, arith}
use Rattle.aft_records.specs.declared.stored.Commit.{Commit}
use Rattle.aft_records.specs.Reading.{commit_of}
use Rattle.aft_records.specs.Stored.{IsCommit}
use Rattle.std.specs.Str.{bytes_eq}
use Rattle.aft_model.specs.Readings.{record_name}
use Rattle.aft_records.proofs.Found.{commit_found}
use Rattle.aft_audit.proofs.Among.{none_read, spelled_if, within_if}
use Rattle.aft_audit.proofs.reading.record_in.Goals as goal

pub returns-in-None-clause-read : goal.returns-in-None-clause-read
returns-in-None-clause-read c = none_read c.args.name.now (λ (x : Commit). record_name x.id.uuid) (commit_of c.args.bytes.now) (rw c.in-None.is at (c.in_ok-readable.ensures (commit_of c.args.bytes.now) c.decode.ensures.exact))

pub returns-in-Some-clause-read : goal.returns-in-Some-clause-read
returns-in-Some-clause-read c =
    spelled_if c.args.name.now (record_name c.uuid_of-uuid.result) (λ (x : Commit). record_name x.id.uuid) (commit_of c.args.bytes.now) c.in-Some.commit c.if_spelled.result
    (rw c.in-Some.is at (c.in_ok-readable.ensures (commit_of c.args.bytes.now) c.decode.ensures.exact)) (ap record_name c.uuid_of-uuid.ensures) c.if_spelled.ensures

pub returns-in-Some-clause-limits : goal.returns-in-Some-clause-limits
returns-in-Some-clause-limits c =
    within_if (bytes_eq c.args.name.now (record_name c.uuid_of-uuid.result)) c.in-Some.commit IsCommit c.if_spelled.result (commit_found c.args.bytes.now c.in-Some.commit (λ i. omega (arith, c.type_inv.bytes i)) (rw c.in-Some.is at (c.in_ok-readable.ensures (commit_of c.args.bytes.now) c.decode.ensures.exact))).0 c.if_spelled.ensures
