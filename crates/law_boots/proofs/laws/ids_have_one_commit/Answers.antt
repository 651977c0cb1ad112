use Rattle.std.proofs.Common.{◌⊎◌, inl, inr, ℕ, List}
use Rattle.std.specs.Prelude.{IsTrue}
use Rattle.aft_records.specs.Commits.{is_among}
use Rattle.aft_records.specs.declared.stored.Commit.{Commit}
use Rattle.aft_model.specs.declared.door.DoorEntry.{DoorEntry}
use Rattle.aft_model.specs.declared.node.NodeEntry.{NodeEntry}
use Rattle.aft_model.specs.Committed.{Committed, committed}
use Rattle.aft_model.specs.Known.{known}
use Rattle.aft_model.proofs.Histories.{In}
use Rattle.law_boots.proofs.Real.{each_real, found, one_commit}
use Rattle.law_boots.proofs.laws.ids_have_one_commit.Goals as goal

either : (node capacity : ℕ) (door : List DoorEntry) (history : List NodeEntry) (x : Commit) → IsTrue (is_among x (known history)) ⊎ Committed x door → In x (known history) ⊎ In x (committed door)
either node capacity door history x (inl knows) = inl (found node capacity door x (known history) knows)
either node capacity door history x (inr is) = inr (found node capacity door x (committed door) is)

pub returns-clause-one : goal.returns-clause-one
returns-clause-one c node capacity x y door history lawful beside one other same =
    one_commit node capacity door lawful history beside x y (either node capacity door history x one) (either node capacity door history y other) same

pub returns-clause-real : goal.returns-clause-real
returns-clause-real c node capacity door history made beside = each_real node capacity door made history beside
