use Rattle.std.proofs.Common.{◌∙◌, ap}
use Rattle.std.proofs.lemmas.Result.{IfOk-weaker}
use Rattle.aft_records.specs.Reading.{commit_of}
use Rattle.aft_records.specs.Stored.{IsWritableCommit}
use Rattle.aft_records.proofs.Written.{commit_written, timely_is}
use Rattle.aft_records.proofs.stored.Commit.encode.Goals as goal

pub returns-clause-is_record : goal.returns-clause-is_record
returns-clause-is_record c =
    let is : IsWritableCommit c.args.self.now = record { id = record { time = c.limits.ensures.time; uuid = c.limits.ensures.uuid }; keys = c.limits.ensures.keys } in
    IfOk-weaker c.commit_bytes.result _ _ (λ bytes e timely. ap commit_of e ∙ commit_written c.args.self.now is ∙ timely_is c.args.self.now.id.time c.args.self.now timely) c.commit_bytes.ensures
