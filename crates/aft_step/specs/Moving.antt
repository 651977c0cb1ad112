-- How far a client's lines come by its turns.
use Rattle.std.specs.Prelude.{List, None, Option, Some, slice_get, suc, ℕ, ◌+◌, ◌<◌, ◌≡◌, ◌≤◌}
use Rattle.aft_lines.specs.Asked.{Asked}
use Rattle.aft_machine.specs.OneNode.{left_of}
use Rattle.aft_model.specs.declared.script.Line.{Line}
use Rattle.aft_model.specs.History.{first_of}
use Rattle.aft_step.specs.declared.client.Client.{Client}
use Rattle.aft_step.specs.declared.client.Course.{Course}
use Rattle.aft_step.specs.Sitting.{Driven, LeavesOthers, RanWhole}
use Rattle.aft_step.specs.Worlds.{WorldView}
use Rattle.law_accounts.specs.Account.{Runs, Stand}
use Rattle.law_clients.specs.Clients.{Seat}
use Rattle.law_clients.specs.Words.{waiting_of}
use Rattle.law_driver.specs.Kept.{with_stand}

-- how many turns are left at most of the line that runs, and one for its end
abbrev pub turns_left : Option Course → ℕ
turns_left None = 0
turns_left (Some course) = suc (left_of course.machine)

-- the index before which a client's lines are over once the one that runs is
abbrev pub reach : Option Course → ℕ → ℕ
reach None at = at
reach (Some course) at = at + 1

-- a client's first line from an index on stands before another
abbrev pub ReachesFirst : List Line → ℕ → ℕ → ℕ → Type 0
ReachesFirst lines number from to = (i : ℕ) (line : Line) → slice_get lines i ≡ Some line → line.client ≡ number → from ≤ i → ((k : ℕ) (other : Line) → slice_get lines k ≡ Some other → other.client ≡ number → from ≤ k → k < i → ⊥) → i < to

-- how the lines stand since none of a client's ran: the first that waited runs, at an index; or it is over, or none waited
abbrev pub Came : Asked → ℕ → (Line → Stand) → (Line → Stand) → ℕ → Option Course → Type 0
Came asked number stand later at None = RanWhole asked number stand later
Came asked number stand later at (Some course) = (line : Line) × (slice_get asked.script.lines at ≡ Some line) × (first_of (waiting_of number stand asked.script.lines) ≡ Some line) × ((other : Line) → later other ≡ with_stand line Runs stand other)

-- what turns of a client leave behind them: all that stands then, the others as they did, and how far it has come since none of its lines ran
pub record Moves (asked : Asked) (stand : Line → Stand) (seats : ℕ → Seat) (before : Client) (world : WorldView) (behind : Client) : Type 0 where
  pub later : Line → Stand
  pub now : ℕ → Seat
  pub driven : Driven asked later now world behind
  pub leaves : LeavesOthers asked before.number stand later seats now
  pub came : (first : Line → Stand) → Came asked before.number first stand before.at before.running → Came asked before.number first later behind.at behind.running

-- what it leaves that a client's next line begins, where none ran
pub record Begun (asked : Asked) (stand : Line → Stand) (seats : ℕ → Seat) (before : Client) (world : WorldView) (behind : Client) : Type 0 where
  pub later : Line → Stand
  pub now : ℕ → Seat
  pub driven : Driven asked later now world behind
  pub leaves : LeavesOthers asked before.number stand later seats now
  pub came : before.running ≡ None → Came asked before.number stand later behind.at behind.running
