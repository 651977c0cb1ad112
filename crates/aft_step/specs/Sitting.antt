-- How the clients of a script stand in the code: which line of each runs, and which comes next.
use Rattle.std.specs.Option.{ForSome}
use Rattle.std.specs.Prelude.{IsTrue, None, Option, Some, false, slice_get, ℕ, ◌+◌, ◌<◌, ◌≡◌, ◌≢◌, ◌≤◌, ◌⊎◌}
use Rattle.aft_lines.specs.Asked.{Asked}
use Rattle.aft_lines.specs.Lines.{lines}
use Rattle.aft_machine.specs.OneNode.{is_over}
use Rattle.aft_model.proofs.Histories.{In}
use Rattle.aft_model.specs.declared.caller.Hold.{Hold}
use Rattle.aft_model.specs.declared.script.Line.{Line}
use Rattle.aft_model.specs.History.{first_of}
use Rattle.aft_step.specs.declared.client.Client.{Client}
use Rattle.aft_step.specs.declared.client.Course.{Course}
use Rattle.aft_step.specs.Going.{Goes, IsAsked, is_placed}
use Rattle.aft_step.specs.Worlds.{NodesFit, WorldView, ran_of}
use Rattle.aft_turns.specs.Trail.{Trail}
use Rattle.law_accounts.specs.Account.{IsDone, Stand, Waits}
use Rattle.law_clients.specs.Clients.{Busy, ComesInTurn, Crowd, Idle, Seat}
use Rattle.law_clients.specs.Words.{waiting_of}
use Rattle.law_driver.specs.Kept.{with_stand}

-- the lines of a client before an index are over
abbrev pub OverBefore : Asked → (Line → Stand) → ℕ → ℕ → Type 0
OverBefore asked stand number at = (i : ℕ) (line : Line) → slice_get asked.script.lines i ≡ Some line → line.client ≡ number → i < at → stand line ≡ IsDone

-- those from an index on wait
abbrev pub WaitFrom : Asked → (Line → Stand) → ℕ → ℕ → Type 0
WaitFrom asked stand number at = (i : ℕ) (line : Line) → slice_get asked.script.lines i ≡ Some line → line.client ≡ number → at ≤ i → stand line ≡ Waits

-- the line at an index runs, by its machine
pub record RunsAt (asked : Asked) (stand : Line → Stand) (seats : ℕ → Seat) (number at : ℕ) (hold : Hold) (course : Course) : Type 0 where
  pub line : Line
  pub trail : Trail
  pub there : slice_get asked.script.lines at ≡ Some line
  pub its : line.client ≡ number
  pub busy : seats number ≡ Busy hold line trail
  pub goes : Goes asked line hold course.machine course.now trail
  pub on : is_over course.machine ≡ false
  pub later : WaitFrom asked stand number (at + 1)

-- none of the client's lines runs, and the next is searched from an index on; or the one at the index runs
abbrev pub StandsAt : Asked → (Line → Stand) → (ℕ → Seat) → ℕ → ℕ → Hold → Option Course → Type 0
StandsAt asked stand seats number at hold None = (seats number ≡ Idle hold) × WaitFrom asked stand number at
StandsAt asked stand seats number at hold (Some course) = RunsAt asked stand seats number at hold course

-- a client stands so; it holds what is of a node that is there, as is its attempt
pub record Sits (asked : Asked) (stand : Line → Stand) (seats : ℕ → Seat) (client : Client) : Type 0 where
  pub placed : IsTrue (is_placed asked.settings client.hold)
  pub own : ForSome client.hold.attempt (λ a. a.node ≡ client.hold.node)
  pub behind : OverBefore asked stand client.number client.at
  pub stands : StandsAt asked stand seats client.number client.at client.hold client.running

-- all that stands, by the clients but this one
pub record Driven (asked : Asked) (stand : Line → Stand) (seats : ℕ → Seat) (world : WorldView) (client : Client) : Type 0 where
  pub asks : IsAsked asked
  pub crowd : Crowd asked (ran_of world) stand seats
  pub fit : NodesFit asked stand world
  pub sits : Sits asked stand seats client

-- what a client's turns leave as it was: the lines and the seats of the others
pub record LeavesOthers (asked : Asked) (number : ℕ) (stand later : Line → Stand) (before now : ℕ → Seat) : Type 0 where
  pub lines : (line : Line) → In line (lines asked) → line.client ≢ number → later line ≡ stand line
  pub seats : (client : ℕ) → client ≢ number → now client ≡ before client

-- a client's first line that waits, where none runs, comes in its order
abbrev pub NextInTurn : Asked → (Line → Stand) → Client → Type 0
NextInTurn asked stand client = client.running ≡ None → (line : Line) → first_of (waiting_of client.number stand asked.script.lines) ≡ Some line → ComesInTurn asked stand line

-- a client's first line that waited is over, or none waited
abbrev pub RanWhole : Asked → ℕ → (Line → Stand) → (Line → Stand) → Type 0
RanWhole asked number stand later =
    ((first_of (waiting_of number stand asked.script.lines) ≡ None) × ((line : Line) → later line ≡ stand line))
    ⊎ ((done : Line) × (first_of (waiting_of number stand asked.script.lines) ≡ Some done) × ((line : Line) → later line ≡ with_stand done IsDone stand line))
