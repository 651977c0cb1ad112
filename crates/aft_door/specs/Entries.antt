-- The entries that the door makes.
use Rattle.std.specs.Prelude.{List, ℕ}
use Rattle.aft_keeper.specs.declared.keeper.KeeperAnswer.{KeeperAnswer}
use Rattle.aft_keeper.specs.declared.keeper.KeeperCall.{KeeperCall}
use Rattle.aft_model.specs.declared.caller.By.{By}
use Rattle.aft_model.specs.declared.caller.Caller.{Caller}
use Rattle.aft_model.specs.declared.door.DoorAct.{DoorAct}
use Rattle.aft_model.specs.declared.door.DoorAct.TheVariants.{Call, Claim, Fence, GiveUp, Opened, Release, Up}
use Rattle.aft_model.specs.declared.door.DoorEntry.{DoorEntry}
use Rattle.aft_id.specs.declared.txn_id.TxnId.{TxnId}
use Rattle.aft_model.specs.Membership.{Incarnation, incarnation}

-- the incarnation that calls
abbrev pub who_calls : Caller → Incarnation
who_calls who = incarnation who.node who.inc

-- its node and its number
abbrev pub numbers : Incarnation → ℕ × ℕ
numbers who = (who.node, who.inc)

-- an entry for a line
abbrev pub entry : By → DoorAct → DoorEntry
entry by act = record { by = by; act = act }

-- a call of the store, with its answer
abbrev pub called : Caller → KeeperCall → KeeperAnswer → DoorEntry
called who asked answer = entry who.by (Call who.node who.inc asked answer)

abbrev pub claimed : Caller → List ℕ → DoorEntry
claimed who uuid = entry who.by (Claim uuid who.node who.inc)

abbrev pub released : Caller → List ℕ → DoorEntry
released who uuid = entry who.by (Release uuid who.node who.inc)

abbrev pub gave_up : Caller → TxnId → DoorEntry
gave_up who id = entry who.by (GiveUp who.node who.inc id)

abbrev pub came_up : By → ℕ → ℕ → DoorEntry
came_up by node inc = entry by (Up node inc)

abbrev pub was_fenced : By → ℕ → ℕ → DoorEntry
was_fenced by node inc = entry by (Fence node inc)

abbrev pub door_opened : By → DoorEntry
door_opened by = entry by Opened
