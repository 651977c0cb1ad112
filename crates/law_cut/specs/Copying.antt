-- A copy that came to its end, of a store that tells its contents.
use Rattle.std.specs.Prelude.{IsTrue, List, drop, filter, take, ◌∷◌, ◌≡◌}
use Rattle.std.specs.List.{flat_map}
use Rattle.aft_keeper.specs.declared.keeper.Pair.{Pair}
use Rattle.aft_keeper.specs.Contents.{IsContents}
use Rattle.aft_records.specs.declared.stored.Commit.{Commit}
use Rattle.aft_model.specs.declared.door.DoorAct.TheVariants.{Up}
use Rattle.aft_model.specs.declared.script.Command.TheVariants.{Backup}
use Rattle.aft_model.specs.declared.script.Line.{Line}
use Rattle.aft_model.specs.Contents.{GoesAlong}
use Rattle.aft_model.specs.Cut.{is_part_of}
use Rattle.aft_model.proofs.Histories.{In}
use Rattle.aft_lines.specs.Asked.{Asked, Ran}
use Rattle.aft_lines.specs.BackupCourse.{Copier, copy_of_line, shown_in_turn, taken_commits}
use Rattle.aft_lines.specs.FinishedText.{line_of}
use Rattle.aft_lines.specs.LegalTrace.{LegalTrace}
use Rattle.aft_lines.specs.LineView.{ends_of}
use Rattle.aft_lines.specs.Lines.{lines}
use Rattle.aft_lines.specs.Turns.{AtDoor, Turn, turns}
use Rattle.aft_lines.specs.Views.{view_of}

-- a copy came up, and copied all that it was to by these turns behind that
pub record CameThrough (asked : Asked) (ran : Ran) (line : Line) (copying : Copier) (behind : List Turn) : Type 0 where
  pub came_up : turns (line_of line) ran.trace ≡ AtDoor copying.place (Up copying.who.node copying.who.inc) ∷ behind
  pub whole : IsTrue (copy_of_line (ends_of (view_of asked ran line)) copying behind).is_whole

-- so did a copy of a legal trace, where the store held this when its copier came up
pub record CopiesFrom (asked : Asked) (ran : Ran) (line : Line) (copying : Copier) (behind : List Turn) (held : List Pair) : Type 0 where
  pub legal : LegalTrace asked ran
  pub listed : In line (lines asked)
  pub order : line.order ≡ Backup
  pub came : CameThrough asked ran line copying behind
  pub at_first : List Pair
  pub at_last : List Pair
  pub contents : IsContents at_first
  pub along : GoesAlong at_first (take copying.place ran.trace.door) held
  pub rest : GoesAlong held (drop copying.place ran.trace.door) at_last

-- the commits that such a copy takes
abbrev pub taken_by : Asked → Ran → Line → Copier → List Turn → List Commit
taken_by asked ran line copying behind = taken_commits (ends_of (view_of asked ran line)) copying behind

-- what its turns were shown of these
abbrev pub shown_of_taken : Asked → Ran → Line → Copier → List Turn → List Pair
shown_of_taken asked ran line copying behind = filter (is_part_of (taken_by asked ran line copying behind)) (flat_map shown_in_turn behind)
