-- Which turns a start has made, by how far it has come.
use Rattle.std.specs.Prelude.{Bool, IsTrue, List, None, Option, Some, [], false, length, map, max, not, true, ℕ, ◌&&◌, ◌++◌, ◌==◌, ◌||◌, ◌≡◌, ◌≤◌, ◌⊎◌, ◌∷◌}
use Rattle.std.specs.List.{flat_map, list_all, list_any}
use Rattle.aft_keeper.specs.declared.keeper.KeeperAnswer.{KeeperAnswer}
use Rattle.aft_keeper.specs.declared.keeper.KeeperAnswer.TheVariants.{Page}
use Rattle.aft_keeper.specs.declared.keeper.KeeperCall.TheVariants.{Scan}
use Rattle.aft_keeper.specs.declared.keeper.Pair.{Pair}
use Rattle.aft_records.specs.declared.stored.Commit.{Commit}
use Rattle.aft_model.specs.declared.caller.By.{By}
use Rattle.aft_model.specs.declared.door.DoorAct.{DoorAct}
use Rattle.aft_model.specs.declared.door.DoorAct.TheVariants.{Call, Up}
use Rattle.aft_model.specs.declared.door.DoorEntry.{DoorEntry}
use Rattle.aft_model.specs.declared.node.NodeAct.{NodeAct}
use Rattle.aft_model.specs.declared.node.NodeAct.TheVariants as acts
use Rattle.aft_model.specs.declared.node.NodeEntry.{NodeEntry}
use Rattle.aft_model.specs.declared.reply.Reply.{Reply}
use Rattle.aft_model.specs.declared.reply.Reply.TheVariants as replies
use Rattle.aft_model.specs.Membership.{incarnation, is_up, same_incarnation, ups}
use Rattle.aft_model.specs.NodeSights.{comes_up, is_fenced, own_entries}
use Rattle.aft_model.specs.NodeState.{boots, newest, node_state}
use Rattle.aft_model.specs.Readings.{has_reading}
use Rattle.aft_model.specs.ScanRun.{ScanPage, goes_on, is_scan_run, page_limit}
use Rattle.aft_model.specs.Sound.{recorded, records_prefix}
use Rattle.aft_door.specs.Refusals.{is_past}
use Rattle.aft_ledger.specs.Turns.{boot_refusal}
use Rattle.aft_lines.specs.LineView.{has_left}
use Rattle.aft_lines.specs.Turns.{AtDoor, Turn}
use Rattle.aft_node.specs.Closing.{MayClose, opens_boot}
use Rattle.aft_node.specs.declared.goes.BootEnd.{BootEnd}
use Rattle.aft_node.specs.declared.goes.BootEnd.TheVariants.{Refused, Shown}
use Rattle.aft_boot.specs.BootView.{BootView}
use Rattle.aft_boot.specs.Crashed.{turn_at}
use Rattle.aft_boot.specs.Pages.{StopsCall}
use Rattle.aft_boot.specs.declared.stage.Stage.{Stage}
use Rattle.aft_boot.specs.declared.stage.Stage.TheVariants.{Begins, ComesUp, Ended, Ends, Scans}
use Rattle.aft_turns.specs.Trail.{Trail, no_trail}

-- ---- what a step asks

-- at the node, the end of a boot: the last entry of the line there began it
abbrev pub may_close_at : By → Stage → List NodeEntry → Type 0
may_close_at by (Ends inc end) history = MayClose (opens_boot inc) by history
may_close_at by stage history = Unit {0}

abbrev pub may_close : BootView → List NodeEntry → Type 0
may_close boot history = may_close_at boot.by boot.stage history

-- the incarnation still boots, or the node has left it. A start can't know this by itself; it is so in each run so far
abbrev pub may_end_at : Stage → List NodeEntry → Type 0
may_end_at (Ends inc end) history = IsTrue (has_left inc (node_state history) || boots inc (node_state history))
may_end_at stage history = Unit {0}

abbrev pub MayEnd : BootView → List NodeEntry → Type 0
MayEnd boot history = may_end_at boot.stage history

-- at the door: the incarnation that is to come up was fenced, or no other of its node is up and no newer one was fenced; and where it is up already, the line has done nothing there yet. One that has come up is up or was fenced. This too is so in each run so far
abbrev pub may_call_at : By → ℕ → Stage → List DoorEntry → Type 0
may_call_at by node (ComesUp inc) history =
    IsTrue (is_fenced (incarnation node inc) history || (not (is_past node inc history) && list_all (λ other. not (other.node == node) || same_incarnation (incarnation node inc) other) (ups history)))
    × (IsTrue (is_up (incarnation node inc) history) → own_entries by history ≡ [])
may_call_at by node (Scans inc after listed commits) history = IsTrue (is_fenced (incarnation node inc) history || is_up (incarnation node inc) history)
may_call_at by node stage history = Unit {0}

abbrev pub MayCall : BootView → List DoorEntry → Type 0
MayCall boot history = may_call_at boot.by boot.node boot.stage history

-- a history of the door begins with what a line looked at
abbrev pub BeginsWith : List DoorEntry → List DoorEntry → Type 0
BeginsWith look seen = (rest : List DoorEntry) × (seen ≡ look ++ rest)

-- ---- what it did at the door

-- a page that was read: the place of its call, the name behind which it begins, and what it lists
pub record PageAt : Type 0 where
  pub place : ℕ
  pub after : List ℕ
  pub listed : List Pair

-- the call for the page of records behind a name, answered so
abbrev pub page_act : ℕ → ℕ → List ℕ → KeeperAnswer → DoorAct
page_act node inc after answer = Call node inc (Scan records_prefix after page_limit) answer

abbrev pub page_turn : ℕ → ℕ → PageAt → Turn
page_turn node inc page = AtDoor page.place (page_act node inc page.after (Page page.listed))

-- a page as one of a scan run
abbrev pub scan_page : PageAt → ScanPage
scan_page page = record { after = page.after; listed = page.listed }

-- what pages list
abbrev pub listed_on : List PageAt → List Pair
listed_on pages = flat_map (λ page. page.listed) pages

-- the coming up, where the line made it
abbrev pub up_turns : ℕ → ℕ → Option ℕ → List Turn
up_turns node inc None = []
up_turns node inc (Some place) = AtDoor place (Up node inc) ∷ []

-- the turns of a start that began the boot of an incarnation, which came up so, and read these pages
abbrev pub begun_turns : By → ℕ → ℕ → List NodeEntry → ℕ → Option ℕ → List PageAt → List Turn
begun_turns by node inc before front up pages = turn_at by node before front (acts.Booting inc) None ∷ up_turns node inc up ++ map (page_turn node inc) pages

-- the pages showed few enough names, and each pair has a reading
pub record AreRead (pages : List PageAt) : Type 0 where
  pub few : length (listed_on pages) ≤ 20000
  pub readable : IsTrue (list_all has_reading (listed_on pages))

-- a start has made these turns, and maybe more
pub record HasBegun (by : By) (node inc : ℕ) (up : Option ℕ) (pages : List PageAt) (more : List Turn) (trail : Trail) : Type 0 where
  pub before : List NodeEntry
  pub front : ℕ
  pub newest : max (newest before) inc ≡ inc
  pub turns : trail.turns ≡ begun_turns by node inc before front up pages ++ more

-- an incarnation is up by the line's own turn, or was before, as the look showed, before the line did anything at the door
abbrev pub HasComeUp : By → ℕ → ℕ → Option ℕ → List DoorEntry → Type 0
HasComeUp by node inc (Some place) look = Unit {0}
HasComeUp by node inc None look = IsTrue (list_any (λ entry. comes_up (incarnation node inc) entry.act) look) × (own_entries by look ≡ [])

-- it scans, and goes on behind a name
pub record IsScanning (by : By) (node inc : ℕ) (after : List ℕ) (listed : ℕ) (commits : List Commit) (trail : Trail) : Type 0 where
  pub up : Option ℕ
  pub pages : List PageAt
  pub begun : HasBegun by node inc up pages [] trail
  pub come : HasComeUp by node inc up trail.look
  pub read : AreRead pages
  pub goes : goes_on (Some []) (map scan_page pages) ≡ Some after
  pub count : listed ≡ length (listed_on pages)
  pub shown : commits ≡ recorded (listed_on pages)

-- it has read all records
pub record HasRead (by : By) (node inc : ℕ) (commits : List Commit) (trail : Trail) : Type 0 where
  pub up : Option ℕ
  pub pages : List PageAt
  pub begun : HasBegun by node inc up pages [] trail
  pub come : HasComeUp by node inc up trail.look
  pub read : AreRead pages
  pub whole : IsTrue (is_scan_run (map scan_page pages))
  pub shown : commits ≡ recorded (listed_on pages)

-- a call was refused: the look showed the incarnation fenced, or memory was wanting
abbrev pub IsShutOut : ℕ → ℕ → List DoorEntry → Reply → Type 0
IsShutOut node inc look reply = ((reply ≡ replies.NodeDown node inc) × IsTrue (is_fenced (incarnation node inc) look)) ⊎ (reply ≡ replies.NoMemory)

-- why it stopped behind what was listed: a call was refused; or a page's call was answered, and that stops it
abbrev pub StopsAt : ℕ → ℕ → List DoorEntry → List ℕ → ℕ → List Turn → Reply → Type 0
StopsAt node inc look after listed more reply =
    ((more ≡ []) × IsShutOut node inc look reply)
    ⊎ ((place : ℕ) × (answer : KeeperAnswer) × (more ≡ AtDoor place (page_act node inc after answer) ∷ []) × StopsCall answer listed reply)

pub record HasStopped (by : By) (node inc : ℕ) (reply : Reply) (trail : Trail) : Type 0 where
  pub up : Option ℕ
  pub pages : List PageAt
  pub more : List Turn
  pub after : List ℕ
  pub begun : HasBegun by node inc up pages more trail
  pub read : AreRead pages
  pub goes : goes_on (Some []) (map scan_page pages) ≡ Some after
  pub stops : StopsAt node inc trail.look after (length (listed_on pages)) more reply

-- ---- by a stage

-- it is to end so
abbrev pub IsToEnd : By → ℕ → ℕ → BootEnd → Trail → Type 0
IsToEnd by node inc (Shown commits) trail = HasRead by node inc commits trail
IsToEnd by node inc (Refused reply) trail = HasStopped by node inc reply trail

-- a start whose first turn answered: the node serves, or a boot of it runs; or memory was wanting
pub record EndedAtOnce (by : By) (node : ℕ) (trail : Trail) : Type 0 where
  pub before : List NodeEntry
  pub front : ℕ
  pub reply : Reply
  pub turns : trail.turns ≡ turn_at by node before front acts.Nothing (Some reply) ∷ []
  pub answers : (reply ≡ replies.NoMemory) ⊎ (boot_refusal node (node_state before) ≡ Some reply)

-- what the last turn does and answers: the incarnation serves what was shown, or memory was wanting; or it is stopped
abbrev pub BootsSo : ℕ → ℕ → BootEnd → NodeAct → Reply → Type 0
BootsSo node inc (Shown commits) act reply = ((act ≡ acts.Boot inc commits) × (reply ≡ replies.Started node inc)) ⊎ ((act ≡ acts.BootStopped inc) × (reply ≡ replies.NoMemory))
BootsSo node inc (Refused why) act reply = (act ≡ acts.BootStopped inc) × (reply ≡ why)

-- or the node has left the incarnation, and that is told alone
abbrev pub Closes : ℕ → ℕ → BootEnd → List NodeEntry → NodeAct → Reply → Type 0
Closes node inc end before act reply =
    BootsSo node inc end act reply
    ⊎ (IsTrue (has_left inc (node_state before)) × (act ≡ acts.Nothing) × (reply ≡ replies.NodeDown node inc))

-- a start that ended behind its first turn
pub record EndedLater (by : By) (node : ℕ) (trail : Trail) : Type 0 where
  pub inc : ℕ
  pub end : BootEnd
  pub since : Trail
  pub before : List NodeEntry
  pub front : ℕ
  pub act : NodeAct
  pub reply : Reply
  pub is_to : IsToEnd by node inc end since
  pub turns : trail.turns ≡ since.turns ++ turn_at by node before front act (Some reply) ∷ []
  pub look : trail.look ≡ since.look
  pub closes : Closes node inc end before act reply

-- what a start has made by a stage
abbrev pub made_at : By → ℕ → Stage → Trail → Type 0
made_at by node Begins trail = trail ≡ no_trail
made_at by node (ComesUp inc) trail = HasBegun by node inc None [] [] trail
made_at by node (Scans inc after listed commits) trail = IsScanning by node inc after listed commits trail
made_at by node (Ends inc end) trail = IsToEnd by node inc end trail
made_at by node Ended trail = EndedAtOnce by node trail ⊎ EndedLater by node trail

-- a start has made these turns
abbrev pub Made : BootView → Trail → Type 0
Made boot trail = made_at boot.by boot.node boot.stage trail

-- whether its boot is to be stopped since the store failed
abbrev pub told_fault_at : Stage → Bool
told_fault_at (Ends inc (Refused replies.StoreFault)) = true
told_fault_at stage = false

abbrev pub told_fault : BootView → Bool
told_fault boot = told_fault_at boot.stage
