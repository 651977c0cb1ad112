-- The clients of a run on one thread: what each holds, and which line of it runs.
use Rattle.std.specs.Prelude.{List, None, Some, if◌then◌else◌, ℕ, ◌<◌, ◌==◌, ◌≡◌, ◌≢◌, ◌≤◌}
use Rattle.aft_model.proofs.Histories.{In}
use Rattle.aft_model.specs.declared.caller.Hold.{Hold}
use Rattle.aft_model.specs.declared.script.Line.{Line}
use Rattle.aft_lines.specs.Asked.{Asked, Ran}
use Rattle.aft_lines.specs.FinishedText.{line_of}
use Rattle.aft_lines.specs.LegalTrace.{rank}
use Rattle.aft_lines.specs.Lines.{attempt_of, begins, begun_at, hold_before, lines, whole_order}
use Rattle.aft_lines.specs.Turns.{Turn}
use Rattle.aft_turns.specs.Trail.{Trail}
use Rattle.law_accounts.specs.Account.{Account, IsDone, Runs, Stand, Waits}
use Rattle.law_driver.specs.Driven.{Driven}

-- a client's seat: no line of it runs, and it holds this; or this line runs, which it began with that, and has made these turns
pub data Seat : Type 0 where
  Idle : Hold → Seat
  Busy : Hold → Line → Trail → Seat

-- a line is the next of its client: it waits, and the earlier ones are over
pub record IsNext (asked : Asked) (stand : Line → Stand) (line : Line) : Type 0 where
  pub among : In line (lines asked)
  pub waits : stand line ≡ Waits
  pub earlier : (other : Line) → In other (lines asked) → other.client ≡ line.client → other.number < line.number → stand other ≡ IsDone

-- how a client's seat stands for what a run says: where none of its lines runs, its next one begins with what the seat holds
abbrev pub Seated : Asked → Ran → (Line → Stand) → ℕ → Seat → Type 0
Seated asked ran stand client (Idle hold) =
    ((line : Line) → In line (lines asked) → line.client ≡ client → stand line ≢ Runs)
    × ((line : Line) → line.client ≡ client → IsNext asked stand line → hold_before (lines asked) ran.trace line ≡ hold)
Seated asked ran stand client (Busy hold line trail) = (line.client ≡ client) × Driven asked ran stand line hold trail

-- a run with its clients. Where lines run whole, one at most runs
pub record Crowd (asked : Asked) (ran : Ran) (stand : Line → Stand) (seats : ℕ → Seat) : Type 0 where
  pub account : Account asked ran stand
  pub seated : (client : ℕ) → Seated asked ran stand client (seats client)
  pub alone : (order : List Line) → whole_order asked ≡ Some order → (line other : Line) → In line (lines asked) → In other (lines asked) → stand line ≡ Runs → stand other ≡ Runs → line_of line ≡ line_of other

-- the seats, where that of one client is this
abbrev pub with_seat : ℕ → Seat → (ℕ → Seat) → ℕ → Seat
with_seat client seat seats other = if other == client then seat else seats other

-- at first each client holds node 1 and no attempt
abbrev pub first_seat : ℕ → Seat
first_seat client = Idle (record { node = 1; attempt = None })

-- a line comes in its order: where lines run whole, each that has begun is over, and comes before it
abbrev pub ComesInTurn : Asked → (Line → Stand) → Line → Type 0
ComesInTurn asked stand line =
    (order : List Line) → whole_order asked ≡ Some order → (other : Line) → In other (lines asked) → stand other ≢ Waits
    → (stand other ≡ IsDone) × (rank order (line_of other) ≤ rank order (line_of line))

-- what a client holds behind a line of it that has made these turns: what a begin gives, or else what it held before
abbrev pub held_behind : Hold → Line → List Turn → Hold
held_behind hold line turns = if begins line.order then record { node = begun_at line.order; attempt = attempt_of turns } else hold
