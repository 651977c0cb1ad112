-- What a boot sees of the commits that came before its incarnation.
use Rattle.std.specs.Prelude.{IsFalse, IsTrue, List, ◌++◌, ◌∷◌, ◌≡◌}
use Rattle.aft_records.specs.Commits.{is_among}
use Rattle.aft_records.specs.Superseded.{is_superseded}
use Rattle.aft_records.specs.declared.stored.Commit.{Commit}
use Rattle.aft_model.specs.declared.door.DoorEntry.{DoorEntry}
use Rattle.aft_model.specs.Committed.{Committed, committed}
use Rattle.aft_model.specs.Membership.{Incarnation}
use Rattle.aft_model.specs.NodeSights.{comes_up}

-- an incarnation came up at a place of a history, and among these commits is each that was committed before that, and not superseded there
pub record SeesGreatest (who : Incarnation) (commits : List Commit) (history : List DoorEntry) : Type 0 where
  pub before : List DoorEntry
  pub entry : DoorEntry
  pub after : List DoorEntry
  pub parts : history ≡ before ++ entry ∷ after
  pub comes : IsTrue (comes_up who entry.act)
  pub sees : (d : Commit) → Committed d before → IsFalse (is_superseded d (committed before)) → IsTrue (is_among d commits)
