-- Small runs, and lines of them as they ran, in short words.
use Rattle.std.specs.Prelude.{ℕ, List, [], ◌∷◌, ◌++◌, codes, take, Some, None}
use Rattle.aft_keeper.specs.declared.keeper.KeeperAnswer.{KeeperAnswer}
use Rattle.aft_keeper.specs.declared.keeper.KeeperAnswer.TheVariants.{Absent, Done, Page}
use Rattle.aft_keeper.specs.declared.keeper.KeeperCall.{KeeperCall}
use Rattle.aft_keeper.specs.declared.keeper.KeeperCall.TheVariants.{Get, Put, Scan}
use Rattle.aft_keeper.specs.declared.keeper.Pair.{Pair}
use Rattle.aft_records.specs.declared.stored.Commit.{Commit}
use Rattle.aft_model.specs.declared.caller.Attempt.{Attempt}
use Rattle.aft_model.specs.declared.caller.By.{By}
use Rattle.aft_model.specs.declared.caller.Hold.{Hold}
use Rattle.aft_model.specs.declared.door.DoorAct.{DoorAct}
use Rattle.aft_model.specs.declared.door.DoorAct.TheVariants as door
use Rattle.aft_model.specs.declared.door.DoorEntry.{DoorEntry}
use Rattle.aft_model.specs.declared.node.NodeAct.{NodeAct}
use Rattle.aft_model.specs.declared.node.NodeAct.TheVariants as node
use Rattle.aft_model.specs.declared.node.NodeEntry.{NodeEntry}
use Rattle.aft_model.specs.declared.office.OfficeEntry.{OfficeEntry}
use Rattle.aft_model.specs.declared.reply.Reply.{Reply}
use Rattle.aft_model.specs.declared.reply.Reply.TheVariants as reply
use Rattle.aft_model.specs.declared.script.Command.{Command}
use Rattle.aft_lines.specs.Asked.{Ran, Settings}
use Rattle.aft_lines.specs.LineView.{LineView}
use Rattle.aft_model.specs.Opening.{opening}
use Rattle.aft_lines.specs.Turns.{end_front, turns}
use Rattle.aft_lines.specs.LinePosts.{posts_of}
use Rattle.aft_histories.specs.Entries.{u, id_of, x, record_of, marker_of, version_pair, first_page, opening_entry}
use Rattle.aft_runs.specs.Works.{by}

-- ---- entries

-- what a line did at the door
abbrev pub did : By → DoorAct → DoorEntry
did who act = record { by = who; act = act }

-- its call of the store, by the first incarnation of a node, and the answer
abbrev pub called : By → ℕ → KeeperCall → KeeperAnswer → DoorEntry
called who number asked answer = did who (door.Call number 1 asked answer)

abbrev pub got : By → ℕ → List ℕ → KeeperAnswer → DoorEntry
got who number name answer = called who number (Get name) answer

abbrev pub put : By → ℕ → Pair → KeeperAnswer → DoorEntry
put who number pair answer = called who number (Put pair.name pair.bytes) answer

-- what a line did at a node, having seen so much at the door, without an answer and with one
abbrev pub went : By → ℕ → NodeAct → NodeEntry
went who front act = record { front = front; by = who; act = act; answer = None }

abbrev pub told : By → ℕ → NodeAct → Reply → NodeEntry
told who front act answer = record { front = front; by = who; act = act; answer = Some answer }

-- ---- the opening of an empty store, by two nodes

-- the page of all records that a node is shown at the opening
abbrev pub boot_page : ℕ → DoorEntry
boot_page number = opening_entry (door.Call number 1 (Scan (codes "c/") [] 64) (Page []))

abbrev pub opened : List DoorEntry
opened = first_page (codes "c/") [] ∷ first_page (codes "r/") [] ∷ opening_entry door.Opened
    ∷ opening_entry (door.Up 1 1) ∷ boot_page 1 ∷ opening_entry (door.Up 2 1) ∷ boot_page 2 ∷ []

-- how much of it there is
abbrev pub after_opening : ℕ
after_opening = 7

abbrev pub booted_1 : List NodeEntry
booted_1 = went opening 3 (node.Booting 1) ∷ told opening 5 (node.Boot 1 []) (reply.Started 1 1) ∷ []

abbrev pub booted_2 : List NodeEntry
booted_2 = went opening 5 (node.Booting 1) ∷ told opening 7 (node.Boot 1 []) (reply.Started 2 1) ∷ []

-- ---- lines

-- the settings: two nodes, and boxes with room for one message
abbrev pub small : Settings
small = record { nodes = 2; cache = 4; mailbox = 1; rounds = 0 }

-- what came of a run, in which nothing was done at the boxes
abbrev pub ran : List DoorEntry → List NodeEntry → List NodeEntry → List OfficeEntry → Ran
ran door_history history_1 history_2 office =
    record { trace = record { door = door_history; nodes = history_1 ∷ history_2 ∷ []; office = office }; mail = [] ∷ [] ∷ [] ∷ [] }

-- a line of a run, whose client had no answer before it, where lines don't run whole and the clock tells the time 1000
abbrev pub line : By → Command → Hold → Ran → LineView
line who command hold what = record {
  by = who;
  command = command;
  hold = hold;
  settings = small;
  clock = Some 1000;
  turns = turns who what.trace;
  posts = posts_of who command what.mail;
  since = after_opening;
  seen = take (end_front (turns who what.trace)) what.trace.door;
  nodes = what.trace.nodes;
  before = None;
}

-- a client that holds nothing, at a node, and one that holds the first attempt of node 1
abbrev pub holds_nothing : ℕ → Hold
holds_nothing number = record { node = number; attempt = None }

abbrev pub attempt_at : ℕ → Attempt
attempt_at number = record { node = number; inc = 1; number = 1 }

abbrev pub holds_first : Hold
holds_first = record { node = 1; attempt = Some (attempt_at 1) }

-- the lines that the runs are made of: those of a first client, and one each of a second and a third
abbrev pub begins : By
begins = by 1 1

abbrev pub then : By
then = by 1 2

abbrev pub last : By
last = by 1 3

abbrev pub other : By
other = by 2 4

abbrev pub third : By
third = by 3 5

-- ---- a transaction at node 1

-- the transaction 1 begins
abbrev pub begun_door : List DoorEntry
begun_door = opened ++ did begins (door.Claim (u 1) 1 1) ∷ got begins 1 (record_of 1) Absent ∷ got begins 1 (marker_of 1) Absent ∷ []

abbrev pub opening_node : List NodeEntry
opening_node = booted_1 ++ went begins 7 (node.Admit (attempt_at 1) (u 1)) ∷ []

abbrev pub begun_node : List NodeEntry
begun_node = opening_node ++ told begins 10 (node.Begin (attempt_at 1)) (reply.Begun (u 1)) ∷ []

-- it puts x
abbrev pub put_node : List NodeEntry
put_node = begun_node ++ told then 10 (node.Put (attempt_at 1) x (codes "hi")) reply.Stored ∷ []

-- what it commits
abbrev pub only_x : Commit
only_x = record { id = id_of 1000 1; keys = x ∷ [] }

-- and it begins to commit, and stores its version
abbrev pub started_node : List NodeEntry
started_node = put_node ++ went last 10 (node.Start (attempt_at 1) 1000 only_x) ∷ []

abbrev pub version_door : List DoorEntry
version_door = begun_door ++ put last 1 (version_pair x only_x.id) Done ∷ []
