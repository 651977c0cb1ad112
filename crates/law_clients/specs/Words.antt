-- The words of an order that are left, where each runs a line whole.
use Rattle.std.specs.Prelude.{Bool, List, Some, false, filter, true, ℕ, ◌++◌, ◌==◌, ◌≡◌, ◌≢◌}
use Rattle.aft_model.proofs.Histories.{In}
use Rattle.aft_model.specs.declared.script.Line.{Line}
use Rattle.aft_model.specs.declared.script.Step.{Step}
use Rattle.aft_lines.specs.Asked.{Asked}
use Rattle.aft_lines.specs.Lines.{by_words, lines, whole_order}
use Rattle.law_accounts.specs.Account.{IsDone, Runs, Stand, Waits}

abbrev pub is_waiting : Stand → Bool
is_waiting Waits = true
is_waiting Runs = false
is_waiting IsDone = false

-- the lines that wait
abbrev pub waiting : (Line → Stand) → List Line → List Line
waiting stand lines = filter (λ line. is_waiting (stand line)) lines

-- those of a client
abbrev pub waiting_of : ℕ → (Line → Stand) → List Line → List Line
waiting_of client stand lines = filter (λ line. line.client == client) (waiting stand lines)

-- lines that ran whole: each is over, and each other of the run waits
pub record AreDone (asked : Asked) (stand : Line → Stand) (done : List Line) : Type 0 where
  pub over : (line : Line) → In line done → In line (lines asked) × (stand line ≡ IsDone)
  pub others : (line : Line) → In line (lines asked) → stand line ≢ Waits → (stand line ≡ IsDone) × In line done

-- these words are left: where lines run whole, those that are over come first in their order, and then those that the words run
abbrev pub WordsLeft : Asked → (Line → Stand) → List Step → Type 0
WordsLeft asked stand words =
    (order : List Line) → whole_order asked ≡ Some order → (done : List Line) × AreDone asked stand done × (order ≡ done ++ by_words words (waiting stand asked.script.lines))
