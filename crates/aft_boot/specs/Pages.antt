-- What a page of the records shows a start, and why it stops there.
use Rattle.std.specs.Prelude.{Bool, Err, IsFalse, IsTrue, List, None, Ok, Result, Some, filter, length, map, nat_eq, ℕ, ◌++◌, ◌+◌, ◌<◌, ◌≡◌, ◌≤◌}
use Rattle.std.specs.List.{list_all, starts_with}
use Rattle.aft_keeper.specs.declared.keeper.KeeperAnswer.{KeeperAnswer}
use Rattle.aft_keeper.specs.declared.keeper.KeeperAnswer.TheVariants.{Failed, Page}
use Rattle.aft_keeper.specs.declared.keeper.Pair.{Pair}
use Rattle.aft_records.specs.declared.stored.Commit.{Commit}
use Rattle.aft_model.specs.declared.reply.Reply.{Reply}
use Rattle.aft_model.specs.declared.reply.Reply.TheVariants.{Damaged, NoMemory, StoreFault, TooManyRecords}
use Rattle.aft_model.specs.History.{first_of}
use Rattle.aft_model.specs.Readings.{has_reading}
use Rattle.aft_model.specs.ScanRun.{next_after}
use Rattle.aft_model.specs.Sound.{recorded, records_prefix}
use Rattle.aft_lines.specs.CausesScans.{is_damage, written_name}
use Rattle.aft_boot.specs.BootView.{refusal_of}
use Rattle.aft_boot.specs.declared.stage.Stage.{Stage}
use Rattle.aft_boot.specs.declared.stage.Stage.TheVariants.{Ends, Scans}
use Rattle.aft_door.specs.declared.fault.DoorFault.{DoorFault}
use Rattle.aft_node.specs.declared.goes.BootEnd.TheVariants.{Refused, Shown}

-- whether a pair stands under a name of records
abbrev pub is_record : Pair → Bool
is_record pair = starts_with nat_eq pair.name records_prefix

abbrev pub are_records : List Pair → Bool
are_records pairs = list_all is_record pairs

-- a pair has no reading, and its name is told so; or memory was wanting
abbrev pub IsDamage : Pair → Reply → Type 0
IsDamage pair (Damaged written) = IsFalse (has_reading pair) × (written ≡ written_name pair.name)
IsDamage pair NoMemory = Unit {0}
IsDamage pair reply = ⊥

-- the names of the pairs without a reading
abbrev pub damage : List Pair → List (List ℕ)
damage pairs = map (λ pair. pair.name) (filter (is_damage None) pairs)

-- the first of some pairs without a reading is told, or memory was wanting
abbrev pub IsNotRead : List Pair → Reply → Type 0
IsNotRead pairs (Damaged written) = (name : List ℕ) × (first_of (damage pairs) ≡ Some name) × (written ≡ written_name name)
IsNotRead pairs NoMemory = Unit {0}
IsNotRead pairs reply = ⊥

-- why a page stops a scan that has listed so many names before: it shows one name too many, or else a pair without a reading; or memory was wanting
abbrev pub StopsPage : ℕ → List Pair → Reply → Type 0
StopsPage listed page TooManyRecords = 20000 < listed + length page
StopsPage listed page (Damaged written) = (listed + length page ≤ 20000) × IsNotRead page (Damaged written)
StopsPage listed page NoMemory = Unit {0}
StopsPage listed page reply = ⊥

-- why an answered call stops it: a failure is always told; want of memory may hide what was to be copied
abbrev pub StopsCall : KeeperAnswer → ℕ → Reply → Type 0
StopsCall Failed listed reply = reply ≡ StoreFault
StopsCall (Page page) listed reply = StopsPage listed page reply
StopsCall answer listed NoMemory = Unit {0}
StopsCall answer listed reply = ⊥

-- a page was read: few enough names, each pair has a reading, and their commits come behind those before
pub record Reads (page : List Pair) (listed : ℕ) (commits all : List Commit) : Type 0 where
  pub few : listed + length page ≤ 20000
  pub readable : IsTrue (list_all has_reading page)
  pub shown : all ≡ commits ++ recorded page

-- how far a page leads: on, behind its last name; to the end, with all commits; or no further
abbrev pub ReadsTo : List Pair → ℕ → ℕ → List Commit → Stage → Type 0
ReadsTo page inc listed commits (Scans other after count all) =
    (other ≡ inc) × Reads page listed commits all × (count ≡ listed + length page) × ((from : List ℕ) → next_after (record { after = from; listed = page }) ≡ Some after)
ReadsTo page inc listed commits (Ends other (Shown all)) = (other ≡ inc) × Reads page listed commits all × ((from : List ℕ) → next_after (record { after = from; listed = page }) ≡ None)
ReadsTo page inc listed commits (Ends other (Refused reply)) = (other ≡ inc) × StopsPage listed page reply
ReadsTo page inc listed commits stage = ⊥

-- how far a call for a page leads, by what the door told
abbrev pub LeadsTo : ℕ → ℕ → ℕ → List Commit → Result (List Pair) DoorFault → Stage → Type 0
LeadsTo node inc listed commits (Ok page) stage = ReadsTo page inc listed commits stage
LeadsTo node inc listed commits (Err fault) stage = stage ≡ Ends inc (Refused (refusal_of node inc fault))
