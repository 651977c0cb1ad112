-- Where a full marker was put.
use Rattle.std.specs.Prelude.{IsTrue, List, ◌++◌, ◌∷◌, ◌≡◌}
use Rattle.aft_records.specs.declared.stored.Commit.{Commit}
use Rattle.aft_records.specs.declared.stored.Marker.TheVariants.{Full}
use Rattle.aft_records.specs.Superseded.{Superseded}
use Rattle.aft_model.specs.declared.door.DoorEntry.{DoorEntry}
use Rattle.aft_model.specs.Committed.{committed}
use Rattle.aft_model.specs.DoorRules.{all_gave_up}
use Rattle.aft_model.proofs.Histories.{In}
use Rattle.law_kept.specs.Tried.{markers_put}

-- at a place of a history a full marker was put, whatever was answered: its commit was superseded there, and each incarnation of a node that was up had given its id up
pub record MarkedAt (c : Commit) (history : List DoorEntry) : Type 0 where
  pub before : List DoorEntry
  pub entry : DoorEntry
  pub after : List DoorEntry
  pub parts : history ≡ before ++ entry ∷ after
  pub puts : In (Full c) (markers_put entry.act)
  pub superseded : Superseded c (committed before)
  pub given_up : IsTrue (all_gave_up before c.id)
