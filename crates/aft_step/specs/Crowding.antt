-- How all clients of a run stand on one thread, while the words of its order and then its lines are followed.
use Rattle.std.specs.Prelude.{IsTrue, List, None, Some, length, slice_get, ℕ, ◌+◌, ◌<◌, ◌≡◌, ◌≤◌}
use Rattle.aft_lines.specs.Asked.{Asked}
use Rattle.aft_lines.specs.Lines.{whole_order}
use Rattle.aft_model.specs.declared.script.Line.{Line}
use Rattle.aft_model.specs.declared.script.Step.{Step}
use Rattle.aft_step.specs.declared.client.Client.{Client}
use Rattle.aft_step.specs.Going.{IsAsked}
use Rattle.aft_step.specs.Sitting.{Sits}
use Rattle.aft_step.specs.Worlds.{NodesFit, WorldView, ran_of}
use Rattle.law_accounts.specs.Account.{IsDone, Stand}
use Rattle.law_clients.specs.Clients.{Crowd, Seat}
use Rattle.law_clients.specs.Words.{WordsLeft}

-- a client has its number, by where it stands among all, sits, and isn't past the script's end
pub record SitsAt (asked : Asked) (stand : Line → Stand) (seats : ℕ → Seat) (i : ℕ) (client : Client) : Type 0 where
  pub number : client.number ≡ i + 1
  pub sits : Sits asked stand seats client
  pub within : client.at ≤ length asked.script.lines

-- all clients sit, over a world
pub record AllSit (asked : Asked) (stand : Line → Stand) (seats : ℕ → Seat) (world : WorldView) (clients : List Client) : Type 0 where
  pub asks : IsAsked asked
  pub crowd : Crowd asked (ran_of world) stand seats
  pub fit : NodesFit asked stand world
  pub many : length clients ≡ 64
  pub each : (i : ℕ) (client : Client) → slice_get clients i ≡ Some client → SitsAt asked stand seats i client

-- where lines run whole, none runs between two words
abbrev pub NoneRuns : Asked → List Client → Type 0
NoneRuns asked clients = (order : List Line) → whole_order asked ≡ Some order → (i : ℕ) (client : Client) → slice_get clients i ≡ Some client → client.running ≡ None

-- the lines before an index are over
abbrev pub OverBelow : Asked → (Line → Stand) → ℕ → Type 0
OverBelow asked stand past = (i : ℕ) (line : Line) → slice_get asked.script.lines i ≡ Some line → i < past → stand line ≡ IsDone

-- a run on its way, by its clients: these words of its order are left, and the lines before this index are over
pub record ComesTo (asked : Asked) (words : List Step) (past : ℕ) (world : WorldView) (clients : List Client) : Type 0 where
  pub stand : Line → Stand
  pub seats : ℕ → Seat
  pub sit : AllSit asked stand seats world clients
  pub left : WordsLeft asked stand words
  pub none_runs : NoneRuns asked clients
  pub over : OverBelow asked stand past

-- where a run's lines run whole, this word does so
abbrev pub IsWordOf : Asked → Step → Type 0
IsWordOf asked word = (order : List Line) → whole_order asked ≡ Some order → IsTrue word.whole

-- all clients before their lines have begun
abbrev pub AreFirst : List Client → Type 0
AreFirst clients =
    (length clients ≡ 64)
    × ((i : ℕ) (client : Client) → slice_get clients i ≡ Some client → client ≡ record { number = i + 1; hold = record { node = 1; attempt = None }; at = 0; running = None })
