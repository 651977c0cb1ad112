-- Scripts that can be run: what those who run one may rely on.
use Rattle.std.specs.Prelude.{List, [], length, ℕ, ◌<◌, ◌≤◌, ◌∷◌}
use Rattle.std.specs.List.{AllByRecursion}
use Rattle.aft_model.specs.declared.script.Command.{Command}
use Rattle.aft_model.specs.declared.script.Command.TheVariants.{Abort, Announce, Backup, Begin, Collect, Commit, Crash, Deliver, Forget, Get, Local, Manager, Orphans, Put, Start}
use Rattle.aft_model.specs.declared.script.Line.{Line}
use Rattle.aft_script.specs.declared.forms.Said.{Said}

-- a node that there is
abbrev pub IsNode : ℕ → ℕ → Type 0
IsNode nodes node = (1 ≤ node) × (node ≤ nodes)

-- a command that names no node but those that there are, and no value that is too long
abbrev pub IsCommandFor : ℕ → Command → Type 0
IsCommandFor nodes (Begin uuid node) = IsNode nodes node
IsCommandFor nodes (Put key value) = length value ≤ 4096
IsCommandFor nodes (Get key) = Unit {0}
IsCommandFor nodes Commit = Unit {0}
IsCommandFor nodes Abort = Unit {0}
IsCommandFor nodes (Crash node) = IsNode nodes node
IsCommandFor nodes (Start node) = IsNode nodes node
IsCommandFor nodes (Announce node) = IsNode nodes node
IsCommandFor nodes (Deliver node) = IsNode nodes node
IsCommandFor nodes (Local node) = IsNode nodes node
IsCommandFor nodes Manager = Unit {0}
IsCommandFor nodes Collect = Unit {0}
IsCommandFor nodes (Forget uuid node) = IsNode nodes node
IsCommandFor nodes (Orphans key) = Unit {0}
IsCommandFor nodes Backup = Unit {0}

-- what a client may ask for
pub record IsSaidFor (nodes : ℕ) (said : Said) : Type 0 where
  pub some : 1 ≤ said.client
  pub few : said.client ≤ 64
  pub order : IsCommandFor nodes said.order

-- a line of a client of 1 to 64 with such a command
pub record IsLineFor (nodes : ℕ) (line : Line) : Type 0 where
  pub some : 1 ≤ line.client
  pub few : line.client ≤ 64
  pub order : IsCommandFor nodes line.order

-- the numbers of lines ascend strictly, all above another number
abbrev pub Ascend : ℕ → List Line → Type 0
Ascend least [] = Unit {0}
Ascend least (line ∷ rest) = (least < line.number) × Ascend line.number rest

-- the lines of a script for so many nodes: each is such a line, and their numbers ascend strictly from 1 or more
pub record AreRunnable (nodes : ℕ) (lines : List Line) : Type 0 where
  pub each : AllByRecursion (IsLineFor nodes) lines
  pub ascending : Ascend 0 lines

-- such lines whose numbers are below the next one
pub record AreReadTo (nodes next : ℕ) (lines : List Line) : Type 0 where
  pub runnable : AreRunnable nodes lines
  pub below : AllByRecursion (λ line. line.number < next) lines
