-- What is asked of the gets of a run, so that no reply tells of a loss.
use Rattle.std.specs.Prelude.{Bool, IsTrue, Some, not, ◌||◌}
use Rattle.std.specs.List.{list_all}
use Rattle.aft_lines.specs.Asked.{Asked, Ran}
use Rattle.aft_lines.specs.FinishedText.{answers_of, line_of}
use Rattle.aft_lines.specs.Headline.{tells_loss}
use Rattle.aft_lines.specs.Lines.{lines}
use Rattle.law_damage.specs.Paging.{is_get}

-- whether no get of a run answers that what it chose is gone or spoiled
abbrev pub gets_lose_nothing : Asked → Ran → Bool
gets_lose_nothing asked ran = list_all (λ line. not (is_get line.order) || list_all (λ reply. not (tells_loss (Some reply))) (answers_of (line_of line) ran)) (lines asked)

abbrev pub GetsLoseNothing : Asked → Ran → Type 0
GetsLoseNothing asked ran = IsTrue (gets_lose_nothing asked ran)
