-- What an opening gives: a world behind it, or why there is none.
use Rattle.std.specs.Prelude.{Bool, IsTrue, List, None, Option, Some, [], false, if◌then◌else◌, length, map, nat_le, replicate, true, ℕ, ◌&&◌, ◌++◌, ◌+◌, ◌<◌, ◌==◌, ◌≡◌, ◌≤◌, ◌⊎◌, ◌∷◌}
use Rattle.std.specs.List.{flat_map, fold}
use Rattle.aft_audit.specs.Audit.{HasOpened, IsRefusedFor}
use Rattle.aft_audit.specs.declared.fault.AuditFault.{AuditFault}
use Rattle.aft_audit.specs.declared.fault.AuditFault.TheVariants.{Damaged, Memory, Store, TooMany}
use Rattle.aft_conf.specs.declared.conf.Conf.{Conf}
use Rattle.aft_door.specs.Calls.{DoorView}
use Rattle.aft_keeper.specs.declared.keeper.KeeperEntry.{KeeperEntry}
use Rattle.aft_keeper.specs.declared.keeper.Pair.{Pair}
use Rattle.aft_ledger.specs.View.{NodeView}
use Rattle.aft_lines.specs.Asked.{Ran, Settings}
use Rattle.aft_lines.specs.CausesScans.{damage_in, listed_in, written_name}
use Rattle.aft_mail.specs.BoxState.{BoxState}
use Rattle.aft_mail.specs.Desk.{Desk}
use Rattle.aft_records.specs.Commits.{ids_of}
use Rattle.aft_records.specs.declared.stored.Commit.{Commit}
use Rattle.aft_model.specs.declared.door.DoorEntry.{DoorEntry}
use Rattle.aft_model.specs.declared.mail.MailEntry.{MailEntry}
use Rattle.aft_model.specs.declared.node.NodeEntry.{NodeEntry}
use Rattle.aft_model.specs.declared.office.OfficeEntry.{OfficeEntry}
use Rattle.aft_model.specs.DoorKnowledge.{is_open, is_up_act}
use Rattle.aft_model.specs.History.{first_of}
use Rattle.aft_model.specs.NodeState.{node_state, serves}
use Rattle.aft_model.specs.Office.{heard}
use Rattle.aft_model.specs.Opening.{has_failed}
use Rattle.aft_model.specs.Sound.{records_prefix}
use Rattle.aft_boot.specs.FirstBoots.{HaveServed, HaveStopped}

-- the settings of a run, as they were read
abbrev pub settings_of : Conf → Settings
settings_of conf = record { nodes = conf.nodes; cache = conf.cache; mailbox = conf.mailbox; rounds = conf.rounds }

-- ---- a world

-- the histories of nodes
abbrev pub histories : List NodeView → List (List NodeEntry)
histories nodes = map (λ node. node.history) nodes

-- the histories of boxes
abbrev pub posts : List BoxState → List (List MailEntry)
posts boxes = map (λ box. box.history) boxes

-- what has come of a run over a door, nodes, boxes and an office
abbrev pub ran_over : List DoorEntry → List NodeView → List BoxState → List OfficeEntry → Ran
ran_over door nodes boxes office = record { trace = record { door = door; nodes = histories nodes; office = office }; mail = posts boxes }

-- whether a node keeps as many values as the settings say, has room for so many answers, has seen no more of the door than there is, and serves its first incarnation
abbrev pub is_ready : Settings → ℕ → ℕ → NodeView → Bool
is_ready settings lines reach node = node.capacity == settings.cache && node.room == lines && nat_le node.front reach && serves 1 (node_state node.history)

-- a box as it is made
abbrev pub empty_box : Settings → BoxState
empty_box settings = record { capacity = settings.mailbox; messages = []; front = 0; history = [] }

-- empty boxes: the office's, and one of each node
abbrev pub empty_boxes : Settings → List BoxState
empty_boxes settings = replicate (settings.nodes + 1) (empty_box settings)

-- the office that has heard of what was committed when the door was opened, with room for so many answers, and that has done nothing
abbrev pub fresh_office : List DoorEntry → ℕ → Desk
fresh_office door lines = record { heard = heard door []; history = []; front = 0; room = lines }

-- a door tells of its store what that told at first
pub record TellsFirst (pairs : Option (List Pair)) (calls : Option (List KeeperEntry)) (door : DoorView) : Type 0 where
  pub contents : door.first_contents ≡ pairs
  pub log : door.first_log ≡ calls

-- ---- no world

-- what has come of a run whose opening was refused: what that did at the door, and nothing else
abbrev pub refused_run : Settings → List DoorEntry → Ran
refused_run settings door = record { trace = record { door = door; nodes = replicate settings.nodes []; office = [] }; mail = [] }

-- what the last boot did at the door behind its coming up
abbrev pub last_boot : List DoorEntry → List DoorEntry
last_boot door = fold (λ since entry. if is_up_act entry.act then [] else since ++ entry ∷ []) [] door

-- the names of records that it was shown, and the first of them that has no reading, or whose bytes have none
abbrev pub names_shown : List DoorEntry → ℕ
names_shown boot = length (flat_map (λ entry. listed_in records_prefix entry.act) boot)

-- why the last boot was stopped: by a call that failed; by the 20,001st name; or by the first name that has no reading, or whose bytes have none, as replies write it. Want of memory is free
abbrev pub StopsBoot : AuditFault → List DoorEntry → Type 0
StopsBoot Store boot = IsTrue (has_failed boot)
StopsBoot TooMany boot = 20000 < names_shown boot
StopsBoot (Damaged written) boot = (names_shown boot ≤ 20000) × ((name : List ℕ) × (first_of (flat_map (damage_in None) boot) ≡ Some name) × (written ≡ written_name name))
StopsBoot Memory boot = Unit {0}

-- whether a fault is the store's
abbrev pub is_store : AuditFault → Bool
is_store Store = true
is_store fault = false

-- a first boot was stopped, behind an audit that opened the door
pub record IsStoppedFor (fault : AuditFault) (door : List DoorEntry) : Type 0 where
  pub opened : IsTrue (is_open door)
  pub stops : StopsBoot fault (last_boot door)

-- why there is no world: the audit refused the store, or a first boot was stopped
abbrev pub NoWorldFor : AuditFault → List DoorEntry → Type 0
NoWorldFor fault door = IsRefusedFor fault door ⊎ IsStoppedFor fault door

-- ---- on the way

-- the door was opened behind an audit that showed these commits, each node is behind its first boot, the boxes are empty, and the office has heard of the commits
pub record IsMade (settings : Settings) (lines : ℕ) (door : List DoorEntry) (nodes : List NodeView) (boxes : List BoxState) (office : Desk) : Type 0 where
  pub audited : List DoorEntry
  pub commits : List Commit
  pub opened : HasOpened commits audited
  pub served : HaveServed settings.cache lines settings.nodes nodes audited door
  pub boxes_are : boxes ≡ empty_boxes settings
  pub office_is : office ≡ record { heard = ids_of commits; history = []; front = 0; room = lines }

-- a boot behind the audit was stopped
pub record StopsBehind (settings : Settings) (fault : AuditFault) (door : List DoorEntry) : Type 0 where
  pub audited : List DoorEntry
  pub commits : List Commit
  pub opened : HasOpened commits audited
  pub stopped : HaveStopped settings.nodes fault audited door

-- the audit refused the store, or a boot behind it was stopped
abbrev pub IsStopped : Settings → AuditFault → List DoorEntry → Type 0
IsStopped settings fault door = IsRefusedFor fault door ⊎ StopsBehind settings fault door
