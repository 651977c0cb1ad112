-- The lines of a client one after the other.
use Rattle.std.specs.Prelude.{IsFalse, ◌<◌, ◌==◌, ◌≡◌, ◌≤◌}
use Rattle.aft_model.proofs.Histories.{In}
use Rattle.aft_model.specs.declared.script.Line.{Line}
use Rattle.aft_lines.specs.Asked.{Asked}
use Rattle.aft_lines.specs.Lines.{lines}

-- a line is the first of its client
abbrev pub IsFirst : Asked → Line → Type 0
IsFirst asked line = (other : Line) → In other (lines asked) → other.client ≡ line.client → line.number ≤ other.number

-- a line of a client, which isn't the background's, comes next behind another: none of the client's is numbered between them
pub record ComesNext (asked : Asked) (line next : Line) : Type 0 where
  pub among : In line (lines asked)
  pub same_client : next.client ≡ line.client
  pub no_background : IsFalse (line.client == 0)
  pub behind : line.number < next.number
  pub none_between : (other : Line) → In other (lines asked) → other.client ≡ line.client → line.number < other.number → next.number ≤ other.number
