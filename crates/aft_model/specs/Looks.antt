-- What the office has found out about an id under the standing claim of its UUID: it looks at the record, and then at the marker, before it deletes versions of the id.
use Rattle.std.specs.Prelude.{Bool, IsTrue, List, None, Option, Some, [], false, if◌then◌else◌, true, ◌&&◌, ◌||◌}
use Rattle.std.specs.List.{fold}
use Rattle.std.specs.Str.{bytes_eq}
use Rattle.aft_id.specs.declared.txn_id.TxnId.{TxnId}
use Rattle.aft_keeper.specs.declared.keeper.KeeperCall.TheVariants.{Delete}
use Rattle.aft_records.specs.declared.name.Name.{Name}
use Rattle.aft_records.specs.declared.name.Name.TheVariants.{VersionOf}
use Rattle.aft_records.specs.NameReading.{name_of}
use Rattle.aft_model.specs.declared.door.DoorAct.{DoorAct}
use Rattle.aft_model.specs.declared.door.DoorAct.TheVariants.{Call, Claim, Release}
use Rattle.aft_model.specs.declared.door.DoorEntry.{DoorEntry}
use Rattle.aft_model.specs.Claims.{claimant_after, is_held_by}
use Rattle.aft_model.specs.DoorKnowledge.{finds_other, knows_record_gone}
use Rattle.aft_model.specs.History.{each_after}
use Rattle.aft_model.specs.Membership.{Incarnation, incarnation}
use Rattle.aft_model.specs.Readings.{marker_name, record_name}

-- the UUID isn't claimed; it is; and the office has then found no record of the id; and then no marker
pub data Look : Type 0 where
  IsUnclaimed : Look
  IsClaimed : Look
  FoundOther : Look
  IsCleared : Look

-- the office found no record of the id, and no marker
abbrev pub saw_no_record : Look → Look
saw_no_record IsClaimed = FoundOther
saw_no_record before = before

abbrev pub saw_no_marker : Look → Look
saw_no_marker FoundOther = IsCleared
saw_no_marker before = before

-- what is found out about an id after a call
abbrev pub look_after_call : TxnId → Look → DoorAct → Look
look_after_call id before act =
    if finds_other id (record_name id.uuid) act then saw_no_record before else if finds_other id (marker_name id.uuid) act then saw_no_marker before else before

-- the same after an act, of which this is whose claim of the UUID stood before: a claim begins anew, and the release by who holds the claim ends it
abbrev pub look_after : TxnId → Option Incarnation → Look → DoorAct → Look
look_after id held before (Claim uuid node inc) = if bytes_eq id.uuid uuid then IsClaimed else before
look_after id held before (Release uuid node inc) = if bytes_eq id.uuid uuid && is_held_by (incarnation node inc) held then IsUnclaimed else before
look_after id held before (Call node inc asked answer) = look_after_call id before (Call node inc asked answer)
look_after id held before act = before

-- what is found out about an id, and whose claim of its UUID stands
pub record Found : Type 0 where
  pub look : Look
  pub claimant : Option Incarnation

-- both after an act
abbrev pub found_after : TxnId → Found → DoorAct → Found
found_after id before act = record { look = look_after id before.claimant before.look act; claimant = claimant_after id.uuid before.claimant act }

-- what is found out about an id after a history
abbrev pub look : TxnId → List DoorEntry → Look
look id history = (fold (λ before entry. found_after id before entry.act) (record { look = IsUnclaimed; claimant = None }) history).look

-- whether an id is cleared
abbrev pub is_cleared : Look → Bool
is_cleared IsCleared = true
is_cleared other = false

-- whether the office's delete of a version of an id whose record isn't known to be gone comes where the id is cleared
abbrev pub is_cleared_for : List DoorEntry → Option Name → Bool
is_cleared_for history (Some (VersionOf key id)) = knows_record_gone id history || is_cleared (look id history)
is_cleared_for history other = true

abbrev pub deletes_cleared_in : List DoorEntry → DoorAct → Bool
deletes_cleared_in history (Call node inc (Delete name) answer) = is_cleared_for history (name_of name)
deletes_cleared_in history act = true

-- whether each version that was deleted was that of a commit whose record was gone, or of an id that was cleared
abbrev pub deletes_cleared : List DoorEntry → Bool
deletes_cleared history = each_after (λ before entry. deletes_cleared_in before entry.act) [] history

abbrev pub DeletesCleared : List DoorEntry → Type 0
DeletesCleared history = IsTrue (deletes_cleared history)
