-- The value of a committed version, at a moment of the door's history.
use Rattle.std.specs.Prelude.{IsTrue, List, Some, ℕ, ◌≡◌}
use Rattle.aft_id.specs.declared.txn_id.TxnId.{TxnId}
use Rattle.aft_records.specs.declared.stored.Commit.{Commit}
use Rattle.aft_model.specs.declared.door.DoorEntry.{DoorEntry}
use Rattle.aft_model.specs.Committed.{committed}
use Rattle.aft_model.specs.DoorKnowledge.{is_open}
use Rattle.aft_model.proofs.Histories.{In}
use Rattle.aft_lines.specs.Headline.{value_of}

-- behind an open door a commit of this id, which wrote the key, is committed, and this is the value of its version
pub record TrueValue (key : List ℕ) (id : TxnId) (value : List ℕ) (seen : List DoorEntry) : Type 0 where
  pub commit : Commit
  pub is_committed : In commit (committed seen)
  pub its_id : commit.id ≡ id
  pub wrote_it : In key commit.keys
  pub opened : IsTrue (is_open seen)
  pub told : value_of key id seen ≡ Some value
