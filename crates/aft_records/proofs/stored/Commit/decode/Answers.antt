use Rattle.std.proofs.Common.{subst, arith}
use Rattle.aft_records.specs.Gives.{Gives}
use Rattle.aft_records.specs.Reading.{commit_of}
use Rattle.aft_records.proofs.Found.{found_by, commit_found}
use Rattle.aft_records.proofs.Written.{spelled_written}
use Rattle.aft_records.proofs.stored.Commit.decode.Goals as goal

pub returns-clause-found : goal.returns-clause-found
returns-clause-found c = found_by _ (commit_of c.args.bytes.now) c.commit_from.result (λ x e. ((commit_found c.args.bytes.now x (λ i. omega (arith, c.type_inv.bytes i)) e).0, e)) c.commit_from.ensures

pub returns-clause-spelled : goal.returns-clause-spelled
returns-clause-spelled c = found_by _ (commit_of c.args.bytes.now) c.commit_from.result (λ x e. (commit_found c.args.bytes.now x (λ i. omega (arith, c.type_inv.bytes i)) e).1) c.commit_from.ensures

pub returns-clause-only : goal.returns-clause-only
returns-clause-only c = λ commit fits spelled. subst (λ read. Gives (λ x. x) c.commit_from.result read) (spelled_written c.args.bytes.now commit fits spelled) c.commit_from.ensures
