-- Which markers were tried, and what came behind a mark.
use Rattle.std.specs.Prelude.{Bool, List, [], ℕ, ◌&&◌, ◌⊎◌, IsTrue}
use Rattle.std.specs.List.{flat_map, list_any}
use Rattle.aft_id.specs.declared.txn_id.TxnId.{TxnId}
use Rattle.aft_id.specs.TxnId.{same_id}
use Rattle.aft_keeper.specs.declared.keeper.KeeperCall.TheVariants.{Put}
use Rattle.aft_records.specs.declared.stored.Commit.{Commit}
use Rattle.aft_records.specs.declared.stored.Marker.{Marker}
use Rattle.aft_model.specs.declared.door.DoorAct.{DoorAct}
use Rattle.aft_model.specs.declared.door.DoorAct.TheVariants.{Call}
use Rattle.aft_model.specs.declared.door.DoorEntry.{DoorEntry}
use Rattle.aft_model.specs.Claims.{forgotten}
use Rattle.aft_model.specs.Committed.{marked}
use Rattle.aft_model.specs.DoorKnowledge.{deletes, marked_then}
use Rattle.aft_model.specs.Evidence.{shown_pairs}
use Rattle.aft_model.specs.Office.{before_open}
use Rattle.aft_model.specs.Readings.{marker_name, markers_in, record_name, version_name}
use Rattle.aft_model.proofs.Histories.{In}
use Rattle.law_kept.specs.Outcomes.{NeverAbsent, OnlyAbsent, Uncommitted}

-- the markers that an act puts, whatever was answered
abbrev pub markers_put : DoorAct → List Marker
markers_put (Call node inc (Put name bytes) answer) = markers_in (record { name = name; bytes = bytes })
markers_put act = []

-- a marker that was put, whatever was answered, or that the opening was shown
abbrev pub Tried : List DoorEntry → Marker → Type 0
Tried history m = In m (flat_map (λ entry. markers_put entry.act) history) ⊎ In m (flat_map markers_in (flat_map shown_pairs (before_open history)))

-- a UUID was retired before the door was opened: no commit of it is there, and its marker is, unless it is forgotten
pub record RetiredBefore (uuid : List ℕ) (history : List DoorEntry) : Type 0 where
  pub uncommitted : Uncommitted uuid history
  pub record_gone : OnlyAbsent (record_name uuid) history
  pub marked_or_forgotten : NeverAbsent (marker_name uuid) history ⊎ IsTrue (forgotten uuid history)

-- whether an entry deletes a version of a commit, acknowledged
abbrev pub deletes_of : Commit → DoorEntry → Bool
deletes_of c entry = list_any (λ key. deletes (version_name key c.id) entry.act) c.keys

-- whether a commit of an id is marked, and behind that a version of it was deleted
abbrev pub began_to_delete : TxnId → List DoorEntry → Bool
began_to_delete id history = list_any (λ c. same_id id c.id && marked_then (list_any (deletes_of c)) c history) (marked history)
