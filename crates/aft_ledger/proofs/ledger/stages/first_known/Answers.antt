use Rattle.std.proofs.Common.{◌≡◌, List, [], ap, ◌∙◌, not}
use Rattle.std.specs.Prelude.{Err, IfOk, IsTrue, Ok, Result, filter}
use Rattle.std.specs.List.{fold}
use Rattle.aft_records.specs.declared.stored.Commit.{Commit}
use Rattle.aft_records.specs.Commits.{first_known, with_commit}
use Rattle.aft_records.specs.Superseded.{is_superseded}
use Rattle.aft_ledger.specs.Turns.{ids_differ}
use Rattle.aft_ledger.proofs.Learned.{first-learned}
use Rattle.aft_ledger.proofs.ledger.stages.first_known.Goals as goal

first_is : (E : Type 0) (r : Result (List Commit) E) (all commits : List Commit) → all ≡ fold with_commit [] commits → IsTrue (ids_differ commits) → IfOk r (λ known. known ≡ fold with_commit [] (filter (λ c. not (is_superseded c all)) commits)) → IfOk r (λ known. known ≡ first_known commits)
first_is E (Ok known) all commits is differ so = so ∙ (ap (λ (a : List Commit). fold with_commit [] (filter (λ c. not (is_superseded c a)) commits)) is ∙ first-learned commits differ)
first_is E (Err e) all commits is differ so = so

pub returns : goal.returns
returns c = first_is _ _ c.in_ok-all.all c.args.commits.now c.in_ok-all.ensures c.requires c.learned_newest.ensures
