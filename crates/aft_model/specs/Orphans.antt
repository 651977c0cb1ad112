-- Orphans: versions that no commit and no running transaction has.
use Rattle.std.specs.Prelude.{Bool, IsTrue, List, Option, Some, [], not, true, ℕ, ◌&&◌, ◌||◌}
use Rattle.std.specs.List.{list_any}
use Rattle.aft_id.specs.declared.txn_id.TxnId.{TxnId}
use Rattle.aft_keeper.specs.declared.keeper.KeeperCall.TheVariants.{Delete}
use Rattle.aft_records.specs.declared.name.Name.{Name}
use Rattle.aft_records.specs.declared.name.Name.TheVariants.{VersionOf}
use Rattle.aft_records.specs.Commits.{has_id}
use Rattle.aft_records.specs.NameReading.{name_of}
use Rattle.aft_model.specs.declared.door.DoorAct.{DoorAct}
use Rattle.aft_model.specs.declared.door.DoorAct.TheVariants.{Call}
use Rattle.aft_model.specs.declared.door.DoorEntry.{DoorEntry}
use Rattle.aft_model.specs.Claims.{holds}
use Rattle.aft_model.specs.Committed.{committed}
use Rattle.aft_model.specs.DoorRules.{may_delete_orphan}
use Rattle.aft_model.specs.History.{each_after}
use Rattle.aft_model.specs.Membership.{same_incarnation, the_office, ups}

-- whether an incarnation of a node that is up holds a UUID
abbrev pub is_held_at_node : List ℕ → List DoorEntry → Bool
is_held_at_node uuid history = list_any (λ who. not (same_incarnation the_office who) && holds who uuid history) (ups history)

-- whether the version of a key and id is an orphan: no commit of the id is committed, and nobody but the office holds its UUID
abbrev pub is_orphan : List ℕ → TxnId → List DoorEntry → Bool
is_orphan key id history = not (has_id id (committed history)) && not (is_held_at_node id.uuid history)

-- whether a delete of a version, where the rule on orphan versions allows it, is of an orphan
abbrev pub deletes_orphan_in : List DoorEntry → Option Name → Bool
deletes_orphan_in history (Some (VersionOf key id)) = not (may_delete_orphan history id) || is_orphan key id history
deletes_orphan_in history other = true

abbrev pub deletes_rightly : List DoorEntry → DoorAct → Bool
deletes_rightly history (Call node inc (Delete name) answer) = deletes_orphan_in history (name_of name)
deletes_rightly history act = true

-- whether each version that was deleted by the rule on orphan versions was an orphan
abbrev pub deletes_orphans : List DoorEntry → Bool
deletes_orphans history = each_after (λ before entry. deletes_rightly before entry.act) [] history

abbrev pub DeletesOrphans : List DoorEntry → Type 0
DeletesOrphans history = IsTrue (deletes_orphans history)
