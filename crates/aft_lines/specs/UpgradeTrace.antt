-- What may come of a run of an upgrade: the opening's reads, and then gets and puts of the office alone.
use Rattle.std.specs.Prelude.{Bool, IsTrue, List, None, Option, Some, false, filter, if◌then◌else◌, length, true, ℕ, ◌&&◌, ◌==◌}
use Rattle.std.specs.List.{last_or, list_all, list_any}
use Rattle.std.specs.Str.{bytes_eq}
use Rattle.aft_keeper.specs.declared.keeper.KeeperAnswer.TheVariants.{Failed}
use Rattle.aft_keeper.specs.declared.keeper.KeeperCall.TheVariants.{Get, Put}
use Rattle.aft_records.specs.declared.stored.Commit.{Commit}
use Rattle.aft_records.specs.Commits.{same_commit}
use Rattle.aft_model.specs.declared.door.DoorAct.{DoorAct}
use Rattle.aft_model.specs.declared.door.DoorAct.TheVariants.{Call}
use Rattle.aft_model.specs.declared.door.DoorEntry.{DoorEntry}
use Rattle.aft_model.specs.Bytes.{HasBytes}
use Rattle.aft_model.specs.DoorKnowledge.{opens}
use Rattle.aft_model.specs.LegalDoor.{Legal}
use Rattle.aft_model.specs.MayHold.{may_hold}
use Rattle.aft_model.specs.Opening.{opening}
use Rattle.aft_model.specs.Readings.{record_name, written_in}
use Rattle.aft_model.specs.Whole.{is_whole, surely_one}
use Rattle.aft_lines.specs.Asked.{Ran}
use Rattle.aft_lines.specs.CourseWords.{finds_record}
use Rattle.aft_lines.specs.RefusedTrace.{are_empty, only_opens}
use Rattle.aft_lines.specs.Turns.{turns}
use Rattle.aft_lines.specs.UpgradeCourse.{shown_commits, upgrade_course}

-- whether nothing was done but at the door
abbrev pub only_at_door : Ran → Bool
only_at_door ran = are_empty ran.trace.nodes && length ran.trace.office == 0 && length ran.mail == 0

-- whether an upgrade did its course, or the beginning of it
abbrev pub upgrades_in_order : Bool → Ran → Bool
upgrades_in_order whole ran = upgrade_course whole (shown_commits ran.trace.door) (turns opening ran.trace)

-- what may come of a run of an upgrade, which may end after any turn
pub record UpgradeTrace (ran : Ran) : Type 0 where
  pub bytes : HasBytes ran.trace.door
  pub door : Legal ran.trace.door
  pub no_line : IsTrue (only_opens ran)
  pub others : IsTrue (only_at_door ran)
  pub course : IsTrue (upgrades_in_order false ran)

-- a run of an upgrade that came to its end
abbrev pub IsFinishedUpgrade : Ran → Type 0
IsFinishedUpgrade ran = IsTrue (upgrades_in_order true ran)

-- whether a text is the record of a commit in the second format
abbrev pub is_second_format_of : Commit → List ℕ → Bool
is_second_format_of c bytes = list_any (λ r. same_commit c r.commit) (written_in (record { name = record_name c.id.uuid; bytes = bytes }))

-- whether a commit is whole behind a history, and its record surely there, in one text of the second format
abbrev pub is_upgraded : List DoorEntry → Commit → Bool
is_upgraded history c = is_whole c history && surely_one (is_second_format_of c) (may_hold (record_name c.id.uuid) history)

-- what a finished upgrade leaves: each commit that the opening was shown is whole, and its record is in the second format alone
abbrev pub LeavesUpgraded : Ran → Type 0
LeavesUpgraded ran = IsTrue (list_all (is_upgraded ran.trace.door) (shown_commits ran.trace.door))

-- ---- how an upgrade ended

-- all is in the second format, by so many puts; a call failed; or a get showed no record of its commit, under this name
pub data UpgradeEnd : Type 0 where
  HasUpgraded : ℕ → UpgradeEnd
  CallFailed : UpgradeEnd
  ShowsNoRecord : List ℕ → UpgradeEnd

-- whether an act is a put
abbrev pub is_put : DoorAct → Bool
is_put (Call node inc (Put name bytes) answer) = true
is_put act = false

-- what stops an upgrade of these commits with an act, if something does
abbrev pub stopped_with : List Commit → DoorAct → Option UpgradeEnd
stopped_with commits (Call node inc call Failed) = Some CallFailed
stopped_with commits (Call node inc (Get name) answer) = if list_any (λ c. bytes_eq (record_name c.id.uuid) name && finds_record c answer) commits then None else Some (ShowsNoRecord name)
stopped_with commits act = None

-- what stopped an upgrade, by its last entry
abbrev pub stopped_at_last : List Commit → Option DoorEntry → Option UpgradeEnd
stopped_at_last commits None = None
stopped_at_last commits (Some entry) = stopped_with commits entry.act

-- how an upgrade whose opening was accepted ended; where memory was wanting no entry tells so
abbrev pub upgrade_end : Ran → Option UpgradeEnd
upgrade_end ran =
    if upgrades_in_order true ran then Some (HasUpgraded (length (filter (λ entry. is_put entry.act) ran.trace.door)))
    else if list_any (λ entry. opens entry.act) ran.trace.door then stopped_at_last (shown_commits ran.trace.door) (last_or None ran.trace.door)
    else None
