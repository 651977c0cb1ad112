-- What comes of the audit: the office reads all records, all markers and each version, and opens the door where they are sound.
use Rattle.std.specs.Prelude.{Bool, Err, IsFalse, IsTrue, List, Ok, Result, Some, [], length, nat_lt, true, ℕ, ◌&&◌, ◌++◌, ◌||◌, ◌∷◌, ◌≡◌}
use Rattle.std.specs.List.{flat_map, list_all}
use Rattle.aft_keeper.specs.declared.keeper.KeeperCall.TheVariants.{Get}
use Rattle.aft_keeper.specs.Contents.{name_lt}
use Rattle.aft_records.specs.declared.stored.Commit.{Commit}
use Rattle.aft_model.specs.declared.caller.Caller.{Caller}
use Rattle.aft_model.specs.declared.door.DoorAct.{DoorAct}
use Rattle.aft_model.specs.declared.door.DoorAct.TheVariants.{Call}
use Rattle.aft_model.specs.declared.door.DoorEntry.{DoorEntry}
use Rattle.aft_model.specs.DoorKnowledge.{is_open}
use Rattle.aft_model.specs.Opening.{all_scanned, all_shown, has_failed, has_got, marker_pages, opening, record_pages, version_names}
use Rattle.aft_model.specs.ScanRun.{ScanPage, commits_on}
use Rattle.aft_model.specs.Sound.{first_offender}
use Rattle.aft_door.specs.declared.fault.DoorFault.{DoorFault}
use Rattle.aft_door.specs.declared.fault.DoorFault.TheVariants as door_faults
use Rattle.aft_door.specs.Calls.{DoorView}
use Rattle.aft_door.specs.Entries.{door_opened}
use Rattle.aft_audit.specs.declared.fault.AuditFault.{AuditFault}
use Rattle.aft_audit.specs.declared.fault.AuditFault.TheVariants.{Damaged, Memory, Store, TooMany}

-- the office, in the opening
abbrev pub opener : Caller
opener = record { node = 0; inc = 1; by = opening }

-- why the audit stops where the door refused a call of the office
abbrev pub fault_of : DoorFault → AuditFault
fault_of door_faults.Failed = Store
fault_of fault = Memory

-- whether pages show more names than may stand under a prefix
abbrev pub are_too_many : List ScanPage → Bool
are_too_many pages = nat_lt 20000 (length (flat_map (λ page. page.listed) pages))

-- whether the opening was shown too many records or too many markers
abbrev pub shows_too_many : List DoorEntry → Bool
shows_too_many history = are_too_many (record_pages history) || are_too_many (marker_pages history)

-- whether all was read: all records, all markers and each version of each record that was shown
abbrev pub has_read_all : List DoorEntry → Bool
has_read_all history = all_scanned history && list_all (has_got history) (version_names history)

-- ---- the order of the gets

-- the name that an act gets, if it is a get
abbrev pub got_in : DoorAct → List (List ℕ)
got_in (Call node inc (Get name) answer) = name ∷ []
got_in act = []

-- the names that were got, in order
abbrev pub got_names : List DoorEntry → List (List ℕ)
got_names history = flat_map (λ entry. got_in entry.act) history

-- whether each name is greater than the one before it
abbrev pub names_ascend : List (List ℕ) → Bool
names_ascend [] = true
names_ascend (name ∷ []) = true
names_ascend (name ∷ other ∷ names) = name_lt name other && names_ascend (other ∷ names)

-- ---- what comes of it

-- the door isn't open, no call failed, and versions were got in the order of their names
pub record IsReading (history : List DoorEntry) : Type 0 where
  pub closed : IsFalse (is_open history)
  pub works : IsFalse (has_failed history)
  pub in_order : IsTrue (names_ascend (got_names history))

-- a call failed, behind gets in that order
pub record HasFailed (history : List DoorEntry) : Type 0 where
  pub closed : IsFalse (is_open history)
  pub failed : IsTrue (has_failed history)
  pub in_order : IsTrue (names_ascend (got_names history))

-- no call failed, and the last page showed the 20,001st name of its prefix
pub record HasTooMany (history : List DoorEntry) : Type 0 where
  pub reading : IsReading history
  pub many : IsTrue (shows_too_many history)

-- all was read, and this is the first name that offends
pub record HasOffender (name : List ℕ) (history : List DoorEntry) : Type 0 where
  pub reading : IsReading history
  pub few : IsFalse (shows_too_many history)
  pub read : IsTrue (has_read_all history)
  pub first : first_offender (all_shown history) ≡ Some name

-- why the door stays closed, by its history: want of memory alone is free
abbrev pub IsRefusedFor : AuditFault → List DoorEntry → Type 0
IsRefusedFor Store history = HasFailed history
IsRefusedFor TooMany history = HasTooMany history
IsRefusedFor (Damaged name) history = HasOffender name history
IsRefusedFor Memory history = IsReading history

-- the door was opened behind reads that show these commits, each prefix with few enough names
pub record HasOpened (commits : List Commit) (history : List DoorEntry) : Type 0 where
  pub before : List DoorEntry
  pub ends : history ≡ before ++ door_opened opening ∷ []
  pub reading : IsReading before
  pub few : IsFalse (shows_too_many before)
  pub tells : commits ≡ commits_on (record_pages before)

-- what comes of an audit
abbrev pub Audits : Result (List Commit) AuditFault → List DoorEntry → Type 0
Audits (Ok commits) history = HasOpened commits history
Audits (Err fault) history = IsRefusedFor fault history

-- what the store told at first is the same
pub record IsSameStore (old new : DoorView) : Type 0 where
  pub contents : new.first_contents ≡ old.first_contents
  pub log : new.first_log ≡ old.first_log
