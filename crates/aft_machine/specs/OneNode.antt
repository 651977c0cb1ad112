-- Any machine of a line that keeps to one node and the door: its line, how far it has come, and what it has made.
use Rattle.std.specs.Prelude.{Bool, IsTrue, List, false, length, true, ℕ, ◌≡◌, ◌≤◌, ◌≢◌}
use Rattle.aft_model.specs.declared.caller.By.{By}
use Rattle.aft_model.specs.declared.caller.Hold.{Hold}
use Rattle.aft_model.specs.declared.script.Command.{Command}
use Rattle.aft_model.specs.declared.script.Command.TheVariants as commands
use Rattle.aft_lines.specs.Lines.{attempt_of}
use Rattle.aft_lines.specs.Turns.{Turn}
use Rattle.aft_begin.specs.Made as begins
use Rattle.aft_begin.specs.View as claims
use Rattle.aft_begin.specs.declared.aim.Aim.TheVariants as aims
use Rattle.aft_boot.specs.Booted as boots
use Rattle.aft_boot.specs.BootView as booting
use Rattle.aft_boot.specs.CrashView as crashing
use Rattle.aft_boot.specs.Crashed as crashes
use Rattle.aft_commit.specs.Made as finishes
use Rattle.aft_commit.specs.View as finishing
use Rattle.aft_machine.specs.PutMade as puts
use Rattle.aft_machine.specs.PutView as putting
use Rattle.aft_machine.specs.Starved as starved
use Rattle.aft_machine.specs.declared.machine.Machine.{Machine}
use Rattle.aft_machine.specs.declared.machine.Machine.TheVariants.{Begin, Finish, Forget, Put, Read, Starve, Crash, Start}
use Rattle.aft_read.specs.Made as reads
use Rattle.aft_read.specs.View as reading
use Rattle.aft_turns.specs.Trail.{Trail}
use Rattle.aft_turns.specs.declared.turn.Where.{Where}
use Rattle.aft_turns.specs.declared.turn.Where.TheVariants as places

-- a line has a machine here: it begins, puts, gets, commits, aborts, crashes, starts or forgets; what it puts is short enough, and what it crashes or starts isn't the office
abbrev pub HasMachine : Command → Type 0
HasMachine (commands.Begin uuid node) = Unit {0}
HasMachine (commands.Put key value) = length value ≤ 4096
HasMachine (commands.Get key) = Unit {0}
HasMachine commands.Commit = Unit {0}
HasMachine commands.Abort = Unit {0}
HasMachine (commands.Crash node) = node ≢ 0
HasMachine (commands.Start node) = node ≢ 0
HasMachine (commands.Forget uuid node) = Unit {0}
HasMachine order = ⊥

-- ---- its line

-- who asks
abbrev pub by_of : Machine → By
by_of (Begin line) = line.by
by_of (Forget line hold) = line.by
by_of (Read line) = line.by
by_of (Finish line) = line.by
by_of (Put line) = line.by
by_of (Starve line) = line.by
by_of (Crash line hold) = line.by
by_of (Start line hold) = line.by

-- what is asked
abbrev pub command_of : Machine → Command
command_of (Begin line) = commands.Begin line.uuid line.node
command_of (Forget line hold) = commands.Forget line.uuid line.node
command_of (Read line) = commands.Get line.key
command_of (Finish line) = finishes.command_of line.aborts
command_of (Put line) = commands.Put line.key line.value
command_of (Starve line) = line.command
command_of (Crash line hold) = commands.Crash line.node
command_of (Start line hold) = commands.Start line.node

-- its client held this before it, of which a begin knows nothing
abbrev pub Holds : Machine → Hold → Type 0
Holds (Begin line) held = Unit {0}
Holds (Forget line hold) held = hold ≡ held
Holds (Read line) held = line.hold ≡ held
Holds (Finish line) held = line.hold ≡ held
Holds (Put line) held = line.hold ≡ held
Holds (Starve line) held = line.hold ≡ held
Holds (Crash line hold) held = hold ≡ held
Holds (Start line hold) held = hold ≡ held

-- a begin claims its UUID to begin, and a forget to forget; and what starves is a put or a get
abbrev pub AimsSo : Machine → Type 0
AimsSo (Begin line) = line.aim ≡ aims.Begin
AimsSo (Forget line hold) = line.aim ≡ aims.Forget
AimsSo (Starve line) = IsTrue (starved.is_copied line.command)
AimsSo machine = Unit {0}

-- what its client holds behind it: what a begin gives, or else what it held before
abbrev pub hold_behind : Machine → Hold
hold_behind (Begin line) = claims.hold_of line
hold_behind (Forget line hold) = hold
hold_behind (Read line) = line.hold
hold_behind (Finish line) = line.hold
hold_behind (Put line) = line.hold
hold_behind (Starve line) = line.hold
hold_behind (Crash line hold) = hold
hold_behind (Start line hold) = hold

-- ---- how far it has come

-- where its next turn is
abbrev pub next_of : Machine → Where
next_of (Begin line) = claims.next_of line
next_of (Forget line hold) = claims.next_of line
next_of (Read line) = reading.next_of line
next_of (Finish line) = finishing.next_of line
next_of (Put line) = putting.next_of line
next_of (Starve line) = starved.next_of line
next_of (Crash line hold) = crashing.next_of line
next_of (Start line hold) = booting.next_of line

-- how many turns are left at most
abbrev pub left_of : Machine → ℕ
left_of (Begin line) = claims.left_of line
left_of (Forget line hold) = claims.left_of line
left_of (Read line) = reading.left_of line
left_of (Finish line) = finishing.left_of line
left_of (Put line) = putting.left_of line
left_of (Starve line) = starved.left_of line
left_of (Crash line hold) = crashing.left_of line
left_of (Start line hold) = booting.left_of line

-- whether no turn is left
abbrev pub is_nowhere : Where → Bool
is_nowhere places.Done = true
is_nowhere place = false

abbrev pub is_over : Machine → Bool
is_over machine = is_nowhere (next_of machine)

-- ---- what it has made

-- a machine, over nodes that keep so many values and by this clock, has made these turns
abbrev pub made_of : ℕ → ℕ → Machine → Trail → Type 0
made_of capacity clock (Begin line) trail = begins.Made line trail
made_of capacity clock (Forget line hold) trail = begins.Made line trail
made_of capacity clock (Read line) trail = reads.Made capacity line trail
made_of capacity clock (Finish line) trail = finishes.Made clock line trail
made_of capacity clock (Put line) trail = puts.Made line trail
made_of capacity clock (Starve line) trail = starved.Made line trail
made_of capacity clock (Crash line hold) trail = crashes.Made line trail
made_of capacity clock (Start line hold) trail = boots.Made line trail

-- what a begin gives its client is what these turns say
abbrev pub GivesSo : Machine → List Turn → Type 0
GivesSo (Begin line) turns = attempt_of turns ≡ (claims.hold_of line).attempt
GivesSo machine turns = Unit {0}
