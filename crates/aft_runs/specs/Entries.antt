-- The entries of the histories, in short words.
use Rattle.std.specs.Prelude.{ℕ, List, [], Some, None}
use Rattle.aft_keeper.specs.declared.keeper.Pair.{Pair}
use Rattle.aft_keeper.specs.declared.keeper.KeeperCall.{KeeperCall}
use Rattle.aft_keeper.specs.declared.keeper.KeeperCall.TheVariants as calls
use Rattle.aft_keeper.specs.declared.keeper.KeeperAnswer.{KeeperAnswer}
use Rattle.aft_keeper.specs.declared.keeper.KeeperAnswer.TheVariants as answers
use Rattle.aft_model.specs.Membership.{Incarnation, the_office}
use Rattle.aft_model.specs.declared.caller.By.{By}
use Rattle.aft_model.specs.declared.door.DoorAct.{DoorAct}
use Rattle.aft_model.specs.declared.door.DoorAct.TheVariants as acts
use Rattle.aft_model.specs.declared.door.DoorEntry.{DoorEntry}
use Rattle.aft_model.specs.declared.node.NodeAct.{NodeAct}
use Rattle.aft_model.specs.declared.node.NodeEntry.{NodeEntry}
use Rattle.aft_model.specs.declared.office.OfficeAct.{OfficeAct}
use Rattle.aft_model.specs.declared.office.OfficeEntry.{OfficeEntry}
use Rattle.aft_model.specs.declared.reply.Reply.{Reply}

-- an entry of the door's history
abbrev pub does : By → DoorAct → DoorEntry
does who act = record { by = who; act = act }

-- a call of the store, and its answer
abbrev pub calls_for : By → Incarnation → KeeperCall → KeeperAnswer → DoorEntry
calls_for who caller call answer = does who (acts.Call caller.node caller.inc call answer)

-- a put that is acknowledged, and a get that finds nothing
abbrev pub stores : By → Incarnation → Pair → DoorEntry
stores who caller pair = calls_for who caller (calls.Put pair.name pair.bytes) answers.Done

abbrev pub misses : By → Incarnation → List ℕ → DoorEntry
misses who caller name = calls_for who caller (calls.Get name) answers.Absent

-- a get that finds a pair
abbrev pub finds : By → Incarnation → Pair → DoorEntry
finds who caller pair = calls_for who caller (calls.Get pair.name) (answers.Found pair.bytes)

-- a call that fails
abbrev pub fails : By → Incarnation → KeeperCall → DoorEntry
fails who caller call = calls_for who caller call answers.Failed

-- a delete that is acknowledged
abbrev pub deletes : By → List ℕ → DoorEntry
deletes who name = calls_for who the_office (calls.Delete name) answers.Done

-- a page of all names of a prefix
abbrev pub lists : By → Incarnation → List ℕ → List Pair → DoorEntry
lists who caller prefix pairs = calls_for who caller (calls.Scan prefix [] 64) (answers.Page pairs)

-- an entry of a node's history, and one that answers
abbrev pub turn : ℕ → By → NodeAct → NodeEntry
turn front who act = record { front = front; by = who; act = act; answer = None }

abbrev pub answering : ℕ → By → NodeAct → Reply → NodeEntry
answering front who act reply = record { front = front; by = who; act = act; answer = Some reply }

-- the same of the office
abbrev pub says : ℕ → By → OfficeAct → OfficeEntry
says front who act = record { front = front; by = who; act = act; answer = None }

abbrev pub closes : ℕ → By → OfficeAct → Reply → OfficeEntry
closes front who act reply = record { front = front; by = who; act = act; answer = Some reply }
