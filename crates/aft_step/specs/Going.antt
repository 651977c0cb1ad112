-- A line that its machine runs over a world, turn by turn.
use Rattle.std.specs.Prelude.{Bool, IsTrue, Some, [], false, nat_le, true, ℕ, ◌&&◌, ◌≡◌, ◌⊎◌}
use Rattle.std.specs.List.{list_all}
use Rattle.aft_lines.specs.Asked.{Asked, Settings}
use Rattle.aft_lines.specs.FinishedText.{line_of}
use Rattle.aft_lines.specs.LegalTrace.{is_clock_time}
use Rattle.aft_machine.specs.OneNode.{Holds, by_of, command_of, hold_behind, is_over, made_of}
use Rattle.aft_machine.specs.declared.machine.Machine.{Machine}
use Rattle.aft_model.specs.declared.caller.Hold.{Hold}
use Rattle.aft_model.specs.declared.script.Command.{Command}
use Rattle.aft_model.specs.declared.script.Command.TheVariants as commands
use Rattle.aft_model.specs.declared.script.Line.{Line}
use Rattle.aft_model.specs.declared.script.Order.{Order}
use Rattle.aft_step.specs.Worlds.{NodesFit, WorldView, ran_of}
use Rattle.aft_turns.specs.Trail.{Trail}
use Rattle.law_accounts.specs.Account.{IsDone, Stand}
use Rattle.law_clients.specs.Clients.{Busy, Crowd, Idle, Seat, with_seat}
use Rattle.law_driven_commits.specs.Finishes.{PutsAreShort}
use Rattle.law_driver.specs.Driven.{AllAtOneNode}
use Rattle.law_driver.specs.Kept.{with_stand}
use Rattle.law_held.specs.Desk.{is_script}

-- ---- what is asked

-- whether a command names a node only of these
abbrev pub names_node : Settings → Command → Bool
names_node settings (commands.Begin uuid node) = nat_le 1 node && nat_le node settings.nodes
names_node settings (commands.Crash node) = nat_le 1 node && nat_le node settings.nodes
names_node settings (commands.Start node) = nat_le 1 node && nat_le node settings.nodes
names_node settings (commands.Forget uuid node) = nat_le 1 node && nat_le node settings.nodes
names_node settings command = true

-- a script that one thread runs: its lines are numbered upwards, of clients from 1 to 64, each at one node, which is there, and put short values; no session asks more
pub record IsAsked (asked : Asked) : Type 0 where
  pub script : IsTrue (is_script asked.script.lines)
  pub clients : IsTrue (list_all (λ line. nat_le line.client 64) asked.script.lines)
  pub named : IsTrue (list_all (λ line. names_node asked.settings line.order) asked.script.lines)
  pub one_node : AllAtOneNode asked
  pub short : PutsAreShort asked
  pub asks : asked.asks ≡ []
  pub words : Order
  pub ordered : asked.order ≡ Some words

-- ---- a line

-- whether what a client holds is of a node that is there
abbrev pub is_placed : Settings → Hold → Bool
is_placed settings hold = nat_le 1 hold.node && nat_le hold.node settings.nodes

-- a commit or an abort reads the clock before its first turn
abbrev pub HasRead : Command → ℕ → ℕ → Type 0
HasRead commands.Commit now time = now ≡ time
HasRead commands.Abort now time = now ≡ time
HasRead command now time = Unit {0}

-- a machine is that of a line, whose client holds this, and has made these turns; the time that it is handed is the clock's where it reads it
pub record Goes (asked : Asked) (line : Line) (hold : Hold) (machine : Machine) (now : ℕ) (trail : Trail) : Type 0 where
  pub by : by_of machine ≡ line_of line
  pub command : command_of machine ≡ line.order
  pub held : Holds machine hold
  pub time : ℕ
  pub told : IsTrue (is_clock_time asked.clock time)
  pub read : HasRead line.order now time
  pub made : made_of asked.settings.cache time machine trail

-- a line that runs beside the others, and isn't over
pub record Running (asked : Asked) (stand : Line → Stand) (seats : ℕ → Seat) (world : WorldView) (line : Line) (hold : Hold) (machine : Machine) (now : ℕ) (trail : Trail) : Type 0 where
  pub asks : IsAsked asked
  pub crowd : Crowd asked (ran_of world) stand seats
  pub fit : NodesFit asked stand world
  pub busy : seats line.client ≡ Busy hold line trail
  pub goes : Goes asked line hold machine now trail
  pub on : is_over machine ≡ false
  pub placed : IsTrue (is_placed asked.settings hold)

-- a line that has just ended beside the others, and whose client holds what it gives
pub record Over (asked : Asked) (stand : Line → Stand) (seats : ℕ → Seat) (world : WorldView) (line : Line) (hold : Hold) (machine : Machine) : Type 0 where
  pub over : is_over machine ≡ true
  pub command : command_of machine ≡ line.order
  pub held : Holds machine hold
  pub crowd : Crowd asked (ran_of world) (with_stand line IsDone stand) (with_seat line.client (Idle (hold_behind machine)) seats)
  pub fit : NodesFit asked (with_stand line IsDone stand) world

-- what a turn leaves: the line runs on, or it is over
abbrev pub Turned : Asked → (Line → Stand) → (ℕ → Seat) → WorldView → Line → Hold → Machine → ℕ → Type 0
Turned asked stand seats world line hold machine now =
    ((trail : Trail) × Running asked stand (with_seat line.client (Busy hold line trail) seats) world line hold machine now trail) ⊎ Over asked stand seats world line hold machine
