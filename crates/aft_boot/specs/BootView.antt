-- What a start shows: its line, its node, and how far it has come.
use Rattle.std.specs.Prelude.{Bool, Err, IsTrue, List, None, Ok, Option, Result, Some, [], false, length, not, ℕ, ◌-◌, ◌/◌, ◌==◌, ◌≡◌, ◌≤◌}
use Rattle.std.specs.List.{last_or}
use Rattle.std.specs.Option.{ForSome}
use Rattle.aft_keeper.specs.declared.keeper.Pair.{Pair}
use Rattle.aft_records.specs.declared.stored.Commit.{Commit}
use Rattle.aft_model.specs.declared.caller.By.{By}
use Rattle.aft_model.specs.declared.reply.Reply.{Reply}
use Rattle.aft_model.specs.declared.reply.Reply.TheVariants.{NoMemory, NodeDown, StoreFault}
use Rattle.aft_model.specs.LegalDoor.{ascends}
use Rattle.aft_model.specs.Sound.{recorded}
use Rattle.aft_boot.specs.declared.stage.Stage.{Stage}
use Rattle.aft_boot.specs.declared.stage.Stage.TheVariants.{Begins, ComesUp, Ended, Ends, Scans}
use Rattle.aft_door.specs.declared.fault.DoorFault.{DoorFault}
use Rattle.aft_door.specs.declared.fault.DoorFault.TheVariants.{Failed, Memory}
use Rattle.aft_node.specs.Booting.{MayEndSo}
use Rattle.aft_node.specs.declared.goes.BootEnd.TheVariants.{Refused, Shown}
use Rattle.aft_node.specs.declared.goes.BootGo.{BootGo}
use Rattle.aft_node.specs.declared.goes.BootGo.TheVariants as goes
use Rattle.aft_turns.specs.declared.turn.Where.{Where}
use Rattle.aft_turns.specs.declared.turn.Where.TheVariants as places

pub record BootView : Type 0 where
  pub by : By
  pub node : ℕ
  pub stage : Stage

-- where a start's next turn is
abbrev pub next_at : ℕ → Stage → Where
next_at node Begins = places.Node node
next_at node (ComesUp inc) = places.Door
next_at node (Scans inc after listed commits) = places.Door
next_at node (Ends inc end) = places.Node node
next_at node Ended = places.Done

abbrev pub next_of : BootView → Where
next_of boot = next_at boot.node boot.stage

-- how many turns are left at most
abbrev pub left_at : Stage → ℕ
left_at Begins = 316
left_at (ComesUp inc) = 315
left_at (Scans inc after listed commits) = 314 - listed / 64
left_at (Ends inc end) = 1
left_at Ended = 0

abbrev pub left_of : BootView → ℕ
left_of boot = left_at boot.stage

-- what a scan that goes on behind a name has listed: so many pairs, in the order of their names, the last of which is that name, and which show these commits
pub record HasListed (after : List ℕ) (listed : ℕ) (commits : List Commit) : Type 0 where
  pub pairs : List Pair
  pub count : listed ≡ length pairs
  pub few : listed ≤ 20000
  pub shown : commits ≡ recorded pairs
  pub up : IsTrue (ascends pairs)
  pub last : ForSome (last_or None pairs) (λ pair. pair.name ≡ after)

-- what it has listed fits, and its boot may end so
abbrev pub Fits : Stage → Type 0
Fits (Scans inc after listed commits) = HasListed after listed commits
Fits (Ends inc end) = MayEndSo end
Fits stage = Unit {0}

-- what a start answers where the door refused a call of its incarnation
abbrev pub refusal_of : ℕ → ℕ → DoorFault → Reply
refusal_of node inc Failed = StoreFault
refusal_of node inc Memory = NoMemory
refusal_of node inc fault = NodeDown node inc

-- whether an incarnation that is up, if one is, is another one
abbrev pub is_other : ℕ → Option ℕ → Bool
is_other inc None = false
is_other inc (Some other) = not (other == inc)

-- how far its first turn leads
abbrev pub begun_stage : BootGo → Stage
begun_stage (goes.Go who) = ComesUp who.inc
begun_stage goes.Answered = Ended

-- how far its coming up leads
abbrev pub up_stage : ℕ → ℕ → Result Unit DoorFault → Stage
up_stage node inc (Ok done) = Scans inc [] 0 []
up_stage node inc (Err fault) = Ends inc (Refused (refusal_of node inc fault))

-- how far a page that was read leads, behind which the scan goes on, or is at its end
abbrev pub behind_page : ℕ → ℕ → List Commit → Option (List ℕ) → Stage
behind_page inc listed commits (Some after) = Scans inc after listed commits
behind_page inc listed commits None = Ends inc (Shown commits)
