-- The first boots of an opening: what each did at its node and at the door, and how one stopped.
use Rattle.std.specs.Prelude.{Bool, IsTrue, List, None, Some, [], length, map, nat_lt, suc, true, ℕ, ◌&&◌, ◌++◌, ◌+◌, ◌<◌, ◌==◌, ◌≡◌, ◌≤◌, ◌⊎◌, ◌∷◌, false}
use Rattle.std.specs.List.{flat_map, list_all, range_with_len}
use Rattle.aft_keeper.specs.declared.keeper.KeeperAnswer.{KeeperAnswer}
use Rattle.aft_records.specs.declared.stored.Commit.{Commit}
use Rattle.aft_model.specs.declared.door.DoorAct.{DoorAct}
use Rattle.aft_model.specs.declared.door.DoorAct.TheVariants.{Fence, Up}
use Rattle.aft_model.specs.declared.door.DoorEntry.{DoorEntry}
use Rattle.aft_model.specs.declared.node.NodeAct.TheVariants as acts
use Rattle.aft_model.specs.declared.node.NodeEntry.{NodeEntry}
use Rattle.aft_model.specs.declared.reply.Reply.{Reply}
use Rattle.aft_model.specs.declared.reply.Reply.TheVariants as replies
use Rattle.aft_model.specs.DoorKnowledge.{is_open}
use Rattle.aft_model.specs.LegalNode.{LegalNode, is_legal_node}
use Rattle.aft_model.specs.Opening.{opening}
use Rattle.aft_model.specs.ScanRun.{goes_on, is_scan_run}
use Rattle.aft_model.specs.Sound.{recorded}
use Rattle.aft_audit.specs.declared.fault.AuditFault.{AuditFault}
use Rattle.aft_audit.specs.declared.fault.AuditFault.TheVariants as faults
use Rattle.aft_ledger.specs.View.{NodeView}
use Rattle.aft_lines.specs.LineView.{door_entry_in}
use Rattle.aft_lines.specs.Turns.{AtDoor, AtNode, Turn}
use Rattle.aft_boot.specs.Booted.{AreRead, PageAt, begun_turns, listed_on, page_act, page_turn, scan_page}
use Rattle.aft_boot.specs.Pages.{StopsCall}

-- ---- one that serves

-- a first boot that serves: of which node, how long the door's history was when it began, and the pages that it read
pub record FirstBoot : Type 0 where
  pub node : ℕ
  pub front : ℕ
  pub pages : List PageAt

-- the commits that its pages show
abbrev pub shown_by : FirstBoot → List Commit
shown_by boot = recorded (listed_on boot.pages)

-- its first entry at its node
abbrev pub first_entry : FirstBoot → NodeEntry
first_entry boot = record { front = boot.front; by = opening; act = acts.Booting 1; answer = None }

-- its last entry there, which has seen all that it did at the door
abbrev pub last_entry : FirstBoot → NodeEntry
last_entry boot = record { front = suc (boot.front + length boot.pages); by = opening; act = acts.Boot 1 (shown_by boot); answer = Some (replies.Started boot.node 1) }

-- its turns, the last of which has seen all that it did at the door
abbrev pub boot_turns : FirstBoot → List Turn
boot_turns boot = begun_turns opening boot.node 1 [] boot.front (Some boot.front) boot.pages ++ AtNode boot.node (first_entry boot ∷ []) (last_entry boot) ∷ []

-- its entries at the door
abbrev pub boot_entries : FirstBoot → List DoorEntry
boot_entries boot = flat_map (door_entry_in opening) (boot_turns boot)

-- whether pages stand one behind the other from a place on
abbrev pub are_placed : ℕ → List PageAt → Bool
are_placed place [] = true
are_placed place (page ∷ pages) = page.place == place && are_placed (suc place) pages

-- it stands rightly: it came up behind all that was at the door, and read all records page by page, each with a reading
pub record StandsSo (boot : FirstBoot) : Type 0 where
  pub placed : IsTrue (are_placed (suc boot.front) boot.pages)
  pub read : AreRead boot.pages
  pub whole : IsTrue (is_scan_run (map scan_page boot.pages))

-- its node behind it, with room for so many answers
abbrev pub node_behind : ℕ → ℕ → FirstBoot → NodeView
node_behind capacity lines boot = record {
  number = boot.node;
  capacity = capacity;
  history = first_entry boot ∷ last_entry boot ∷ [];
  front = suc (boot.front + length boot.pages);
  room = lines;
}

-- a node behind its first boot, and the door's history with what that did there
pub record HasServed (capacity lines number : ℕ) (node : NodeView) (old new : List DoorEntry) : Type 0 where
  pub boot : FirstBoot
  pub number_is : boot.node ≡ number
  pub begins : boot.front ≡ length old
  pub stands : StandsSo boot
  pub node_is : node ≡ node_behind capacity lines boot
  pub legal : LegalNode number capacity node.history
  pub door : new ≡ old ++ boot_entries boot

-- ---- one that stopped

-- what a boot's answer is to the opening: nothing, where its node serves; or why there is no world. Memory may be wanting for a name
abbrev pub TellsFault : Reply → AuditFault → Type 0
TellsFault replies.StoreFault fault = fault ≡ faults.Store
TellsFault replies.TooManyRecords fault = fault ≡ faults.TooMany
TellsFault (replies.Damaged name) fault = (fault ≡ faults.Damaged name) ⊎ (fault ≡ faults.Memory)
TellsFault reply fault = fault ≡ faults.Memory

-- why one stopped behind pages: for want of memory, on its way or at the end of its scan; or a call for the next page was answered, and that stops it
abbrev pub StopsBehind : ℕ → List PageAt → List Turn → AuditFault → Type 0
StopsBehind node pages more fault =
    ((more ≡ []) × (fault ≡ faults.Memory) × (((after : List ℕ) × (goes_on (Some []) (map scan_page pages) ≡ Some after)) ⊎ IsTrue (is_scan_run (map scan_page pages))))
    ⊎ ((place : ℕ) × (after : List ℕ) × (answer : KeeperAnswer) × (reply : Reply)
    × (goes_on (Some []) (map scan_page pages) ≡ Some after) × (more ≡ AtDoor place (page_act node 1 after answer) ∷ [])
    × StopsCall answer (length (listed_on pages)) reply × TellsFault reply fault)

-- a first boot that stopped behind its coming up at this place: these are its turns at the door
pub record HasStopped (node : ℕ) (fault : AuditFault) (place : ℕ) (turns : List Turn) : Type 0 where
  pub pages : List PageAt
  pub more : List Turn
  pub turns_are : turns ≡ AtDoor place (Up node 1) ∷ map (page_turn node 1) pages ++ more
  pub placed : IsTrue (are_placed (suc place) pages)
  pub read : AreRead pages
  pub stops : StopsBehind node pages more fault

-- a first boot that stopped: for want of memory before it came up, or behind that
abbrev pub Stops : ℕ → AuditFault → List DoorEntry → List DoorEntry → Type 0
Stops node fault old new =
    ((new ≡ old) × (fault ≡ faults.Memory))
    ⊎ ((turns : List Turn) × HasStopped node fault (length old) turns × (new ≡ old ++ flat_map (door_entry_in opening) turns))

-- ---- one behind the other

-- first boots that follow each other at the door from a place on
abbrev pub FollowFrom : ℕ → List FirstBoot → Type 0
FollowFrom place [] = Unit {0}
FollowFrom place (boot ∷ boots) = (boot.front ≡ place) × StandsSo boot × FollowFrom (place + length (boot_entries boot)) boots

-- the nodes from 1 on, each behind its first boot, and the door's history with what these did there
pub record HaveServed (capacity lines count : ℕ) (nodes : List NodeView) (old new : List DoorEntry) : Type 0 where
  pub boots : List FirstBoot
  pub numbers : map (λ boot. boot.node) boots ≡ range_with_len 1 count
  pub follow : FollowFrom (length old) boots
  pub nodes_are : nodes ≡ map (node_behind capacity lines) boots
  pub legal : IsTrue (list_all (λ node. is_legal_node node.number capacity node.history) nodes)
  pub door : new ≡ old ++ flat_map boot_entries boots

-- the boots of some nodes, and then one that stopped, or memory was wanting
pub record HaveStopped (most : ℕ) (fault : AuditFault) (old new : List DoorEntry) : Type 0 where
  pub capacity : ℕ
  pub lines : ℕ
  pub count : ℕ
  pub nodes : List NodeView
  pub between : List DoorEntry
  pub served : HaveServed capacity lines count nodes old between
  pub few : count ≤ most
  pub stops : (between ≡ new) × (fault ≡ faults.Memory) ⊎ ((count < most) × Stops (suc count) fault between new)

-- whether an act brings no incarnation up of this node or one behind it, and fences none
abbrev pub comes_below : ℕ → DoorAct → Bool
comes_below node (Up other inc) = nat_lt other node
comes_below node (Fence other inc) = false
comes_below node act = true

-- the door is open, and nobody of this node or one behind it has come up
pub record IsReadyFor (node : ℕ) (door : List DoorEntry) : Type 0 where
  pub opened : IsTrue (is_open door)
  pub below : IsTrue (list_all (λ entry. comes_below node entry.act) door)
