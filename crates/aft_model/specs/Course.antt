-- What the course of a transaction's lines gives at the door, as far as an id's committing once needs it.
use Rattle.std.specs.Prelude.{Bool, IsTrue, List, [], false, not, true, ℕ, ◌&&◌, ◌==◌, ◌||◌}
use Rattle.std.specs.List.{list_all, list_any}
use Rattle.std.specs.Str.{bytes_eq}
use Rattle.aft_keeper.specs.declared.keeper.KeeperCall.TheVariants.{Put}
use Rattle.aft_records.specs.Commits.{has_uuid}
use Rattle.aft_model.specs.declared.door.DoorAct.{DoorAct}
use Rattle.aft_model.specs.declared.door.DoorAct.TheVariants.{Call, Release}
use Rattle.aft_model.specs.declared.door.DoorEntry.{DoorEntry}
use Rattle.aft_model.specs.DoorKnowledge.{claims, finds_absent, is_delete}
use Rattle.aft_model.specs.History.{each_after, followed}
use Rattle.aft_model.specs.Membership.{Incarnation, incarnation, same_incarnation}
use Rattle.aft_model.specs.Readings.{record_name, records_in}

-- whether an act is this incarnation's release of this UUID
abbrev pub releases : Incarnation → List ℕ → DoorAct → Bool
releases who uuid (Release released node inc) = same_incarnation who (incarnation node inc) && bytes_eq uuid released
releases who uuid act = false

-- whether an act is this incarnation's put of a record of this UUID, whatever was answered
abbrev pub puts_record : Incarnation → List ℕ → DoorAct → Bool
puts_record who uuid (Call node inc (Put name bytes) answer) =
    same_incarnation who (incarnation node inc) && list_any (has_uuid uuid) (records_in (record { name = name; bytes = bytes }))
puts_record who uuid act = false

-- whether no entry passes a test
abbrev pub none_is : (DoorAct → Bool) → List DoorEntry → Bool
none_is test history = list_all (λ entry. not (test entry.act)) history

-- whether, by its own entries, it is an incarnation's turn to put a record of a UUID: since a claim that it hasn't released it has found no record, and has put none since
abbrev pub is_due : Incarnation → List ℕ → List DoorEntry → Bool
is_due who uuid history =
    followed (λ entry. claims who uuid entry.act) (λ since. none_is (releases who uuid) since
    && followed (λ entry. finds_absent who (record_name uuid) entry.act) (none_is (puts_record who uuid)) since) history

-- whether an act, if a node puts a record by it, is its caller's turn; the office only puts records again
abbrev pub puts_when_due : List DoorEntry → DoorAct → Bool
puts_when_due history (Call node inc (Put name bytes) answer) =
    node == 0 || list_all (λ c. is_due (incarnation node inc) c.id.uuid history) (records_in (record { name = name; bytes = bytes }))
puts_when_due history act = true

-- a history in which each record that a node put was put when it was the node's turn, as a line that commits does
abbrev pub KeepsCourse : List DoorEntry → Type 0
KeepsCourse history = IsTrue (each_after (λ before entry. puts_when_due before entry.act) [] history)

-- a history in which nothing was deleted
abbrev pub DeletesNothing : List DoorEntry → Type 0
DeletesNothing history = IsTrue (none_is is_delete history)
